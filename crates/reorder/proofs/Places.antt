-- The laws that a machine's places and plans obey, and what follows for the state that a plan leaves: by induction on the places that are filled.
use Rattle.std.specs.Prelude.{◌≡◌, refl, List, [], ◌∷◌, ℕ, get_or, drop}
use Rattle.basis.specs.Names.{Memᴰ as In}
use Rattle.basis.proofs.Names.{sym, ap, ◌∙◌, Memᴰ-head as here, Memᴰ-tail as later}
use Rattle.reorder.specs.Result.{Result}
use Rattle.reorder.specs.Plan.{Plan, looks, puts, leaves}

-- the laws of a machine's places. What is frozen, no step changes (the marks of control, the size of the memory).
pub record Laws {S P K Z : Type 0} (look : S → P → ℕ) (put : S → P → ℕ → S) (marked : K → S → S) (frozen : S → Z) (KindsMeet : K → K → Type 0) : Type 0 where
  -- what is put into one place is not seen in another
  pub look_other : (s : S) (p q : P) (v : ℕ) → (p ≡ q → ⊥) → look (put s p v) q ≡ look s q
  -- what is seen in a place after a put into it goes by what is frozen and by what is put
  pub look_same : (s s' : S) (p : P) (v : ℕ) → frozen s ≡ frozen s' → look (put s p v) p ≡ look (put s' p v) p
  -- a place that looks alike in two states looks alike after a put into any place
  pub look_alike : (s s' : S) (p q : P) (v : ℕ) → frozen s ≡ frozen s' → look s q ≡ look s' q → look (put s p v) q ≡ look (put s' p v) q
  -- puts into two places change places
  pub put_comm : (s : S) (p q : P) (v w : ℕ) → (p ≡ q → ⊥) → put (put s p v) q w ≡ put (put s q w) p v
  -- marks are not seen in any place, and change places with a put
  pub look-marked : (s : S) (k : K) (q : P) → look (marked k s) q ≡ look s q
  pub put-marked : (s : S) (k : K) (q : P) (v : ℕ) → put (marked k s) q v ≡ marked k (put s q v)
  -- marks of two kinds that don't meet change places
  pub marked_comm : (s : S) (a b : K) → ¬ KindsMeet a b → marked b (marked a s) ≡ marked a (marked b s)
  -- neither a put nor a mark changes what is frozen
  pub frozen-put : (s : S) (p : P) (v : ℕ) → frozen (put s p v) ≡ frozen s
  pub frozen-marked : (s : S) (k : K) → frozen (marked k s) ≡ frozen s

-- an instruction's plan goes by what is frozen and by the contents of its `via` alone
abbrev pub Local : {S P K Z I : Type 0} → (S → P → ℕ) → (S → Z) → (I → List P) → (I → S → Result (Plan P K)) → Type 0
Local {S} {P} {K} {Z} {I} look frozen via plan =
    (i : I) (s s' : S) → frozen s ≡ frozen s' → ((p : P) → In p (via i) → look s p ≡ look s' p) → plan i s ≡ plan i s'

-- two lists with no place in common
abbrev pub Apart : {P : Type 0} → List P → List P → Type 0
Apart {P} ps qs = (p : P) → In p ps → In p qs → ⊥

-- places that look alike one by one look alike in a row
pub looks_alike : {S P : Type 0} (look : S → P → ℕ) (s s' : S) (ps : List P) → ((p : P) → In p ps → look s p ≡ look s' p) → looks look s ps ≡ looks look s' ps
looks_alike look s s' [] h = refl
looks_alike look s s' (p ∷ ps) h = cc (h p (here refl), looks_alike look s s' ps (λ q m. h q (later m)))

module _ {S P K Z : Type 0} (look : S → P → ℕ) (put : S → P → ℕ → S) (marked : K → S → S) (frozen : S → Z) (KindsMeet : K → K → Type 0)
    (laws : Laws look put marked frozen KindsMeet) where
  look-puts : (s : S) (ps : List P) (vs : List ℕ) (q : P) → (In q ps → ⊥) → look (puts put s ps vs) q ≡ look s q
  look-puts s [] vs q n = refl
  look-puts s (p ∷ ps) vs q n =
      look-puts (put s p (get_or vs 0 0)) ps (drop 1 vs) q (λ m. n (later m)) ∙ laws.look_other s p q _ (λ e. n (here (sym e)))

  put-puts : (s : S) (p : P) (v : ℕ) (qs : List P) (ws : List ℕ) → (In p qs → ⊥) → puts put (put s p v) qs ws ≡ put (puts put s qs ws) p v
  put-puts s p v [] ws n = refl
  put-puts s p v (q ∷ qs) ws n =
      ap (λ (t : S). puts put t qs (drop 1 ws)) (laws.put_comm s p q v _ (λ e. n (here e)))
      ∙ put-puts (put s q (get_or ws 0 0)) p v qs (drop 1 ws) (λ m. n (later m))

  puts-puts : (s : S) (ps : List P) (vs : List ℕ) (qs : List P) (ws : List ℕ) → Apart ps qs
      → puts put (puts put s ps vs) qs ws ≡ puts put (puts put s qs ws) ps vs
  puts-puts s [] vs qs ws a = refl
  puts-puts s (p ∷ ps) vs qs ws a =
      puts-puts (put s p (get_or vs 0 0)) ps (drop 1 vs) qs ws (λ r m. a r (later m))
      ∙ ap (λ (t : S). puts put t ps (drop 1 vs)) (put-puts s p _ qs ws (λ m. a p (here refl) m))

  puts-marked : (s : S) (k : K) (ps : List P) (vs : List ℕ) → puts put (marked k s) ps vs ≡ marked k (puts put s ps vs)
  puts-marked s k [] vs = refl
  puts-marked s k (p ∷ ps) vs =
      ap (λ (t : S). puts put t ps (drop 1 vs)) (laws.put-marked s k p _) ∙ puts-marked (put s p (get_or vs 0 0)) k ps (drop 1 vs)

  frozen-puts : (s : S) (ps : List P) (vs : List ℕ) → frozen (puts put s ps vs) ≡ frozen s
  frozen-puts s [] vs = refl
  frozen-puts s (p ∷ ps) vs = frozen-puts (put s p (get_or vs 0 0)) ps (drop 1 vs) ∙ laws.frozen-put s p _

  -- what looks alike in two states looks alike after the same puts
  look-puts_alike : (s s' : S) (ps : List P) (vs : List ℕ) (q : P) → frozen s ≡ frozen s' → look s q ≡ look s' q
      → look (puts put s ps vs) q ≡ look (puts put s' ps vs) q
  look-puts_alike s s' [] vs q f h = h
  look-puts_alike s s' (p ∷ ps) vs q f h =
      look-puts_alike (put s p (get_or vs 0 0)) (put s' p (get_or vs 0 0)) ps (drop 1 vs) q
      (laws.frozen-put s p _ ∙ f ∙ sym (laws.frozen-put s' p _)) (laws.look_alike s s' p q _ f h)

  -- and what is put looks alike
  look-puts_same : (s s' : S) (ps : List P) (vs : List ℕ) (q : P) → frozen s ≡ frozen s' → In q ps
      → look (puts put s ps vs) q ≡ look (puts put s' ps vs) q
  look-puts_same s s' [] vs q f h = elim h [ ]
  look-puts_same s s' (p ∷ ps) vs q f (here e) =
      look-puts_alike (put s p (get_or vs 0 0)) (put s' p (get_or vs 0 0)) ps (drop 1 vs) q
      (laws.frozen-put s p _ ∙ f ∙ sym (laws.frozen-put s' p _)) (rw e (laws.look_same s s' p _ f))
  look-puts_same s s' (p ∷ ps) vs q f (later m) =
      look-puts_same (put s p (get_or vs 0 0)) (put s' p (get_or vs 0 0)) ps (drop 1 vs) q
      (laws.frozen-put s p _ ∙ f ∙ sym (laws.frozen-put s' p _)) m

  -- the state that a plan leaves
  pub leaves-frozen : (plan : Plan P K) (s : S) (vs : List ℕ) → frozen (leaves put marked plan s vs) ≡ frozen s
  leaves-frozen plan s vs = laws.frozen-marked _ _ ∙ frozen-puts s plan.target vs

  pub leaves-look : (plan : Plan P K) (s : S) (vs : List ℕ) (q : P) → (In q plan.target → ⊥) → look (leaves put marked plan s vs) q ≡ look s q
  leaves-look plan s vs q n = laws.look-marked _ _ q ∙ look-puts s plan.target vs q n

  pub leaves_same : (plan : Plan P K) (s s' : S) (vs : List ℕ) (q : P) → frozen s ≡ frozen s' → In q plan.target
      → look (leaves put marked plan s vs) q ≡ look (leaves put marked plan s' vs) q
  leaves_same plan s s' vs q f m =
      laws.look-marked _ _ q ∙ look-puts_same s s' plan.target vs q f m ∙ sym (laws.look-marked _ _ q)

  pub leaves_comm : (a b : Plan P K) (s : S) (vs ws : List ℕ) → Apart a.target b.target → ¬ KindsMeet a.kind b.kind
      → leaves put marked b (leaves put marked a s vs) ws ≡ leaves put marked a (leaves put marked b s ws) vs
  leaves_comm a b s vs ws d k =
      ap (marked b.kind) (puts-marked _ a.kind b.target ws)
      ∙ laws.marked_comm _ a.kind b.kind k
      ∙ ap (λ (t : S). marked a.kind (marked b.kind t)) (puts-puts s a.target vs b.target ws d)
      ∙ ap (marked a.kind) (sym (puts-marked _ b.kind a.target vs))
