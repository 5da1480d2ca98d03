-- A footprint is honest: a step goes by what it reads alone, and changes nothing but what it writes. For reading and writing are the plan's own.
use Rattle.std.specs.Prelude.{◌≡◌, refl, List, ℕ}
use Rattle.basis.specs.Names.{Memᴰ as In}
use Rattle.basis.proofs.Names.{false≢true, ap, ◌∙◌, subst, Memᴰ-append_left, Memᴰ-append_right}
use Rattle.reorder.specs.Result.{Result, done, refused, map_result}
use Rattle.reorder.specs.Plan.{Plan, looks, leaves, perform, exec_by}
use Rattle.reorder.specs.Footprint.{Footprint, footprint_of, footprint_in, footprint_by, asked}
use Rattle.reorder.proofs.Places.{Laws, Local, looks_alike, leaves-frozen, leaves-look, leaves_same}
use Rattle.reorder.proofs.Swapping.{completes, completed}

-- two outcomes of a step with this footprint: both the footprint's refusal, or both complete, with the same in every place that it writes
abbrev pub Alike : {S P K : Type 0} → (S → P → ℕ) → Result (Footprint P K) → Result S → Result S → Type 0
Alike look (refused n) o o' = (o ≡ refused n) × (o' ≡ refused n)
Alike look (done f) (refused n) o' = ⊥
Alike look (done f) (done t) (refused n) = ⊥
Alike {S} {P} look (done f) (done t) (done t') = (p : P) → In p f.writes → look t p ≡ look t' p

via-asked : {P K : Type 0} (via : List P) (o : Result (Plan P K)) (p : P) → In p via → In p (asked via o)
via-asked via (refused n) p m = m
via-asked via (done plan) p m = Memᴰ-append_left plan.source m

-- where a step has a footprint, what it asks is what the footprint reads
pub asked_reads : {S P K : Type 0} (look : S → P → ℕ) (via : List P) (s : S) (o : Result (Plan P K)) (f : Footprint P K)
    → footprint_in look via s o ≡ done f → asked via o ≡ f.reads
asked_reads look via s (refused n) f e = absurd (false≢true (cc))
asked_reads look via s (done plan) f e = go (plan.make (looks look s plan.source)) e
  where
    go : (made : Result (List ℕ)) → map_result (λ ws. footprint_of via plan) made ≡ done f → asked via (done plan) ≡ f.reads
    go (refused n) h = absurd (false≢true (cc))
    go (done ws) h = let same : footprint_of via plan ≡ f = cc in ap (λ g. g.reads) same

module _ {S P K Z I : Type 0} (look : S → P → ℕ) (put : S → P → ℕ → S) (marked : K → S → S) (frozen : S → Z) (KindsMeet : K → K → Type 0)
    (laws : Laws look put marked frozen KindsMeet) (via : I → List P) (plan : I → S → Result (Plan P K)) where
  abbrev exec : I → S → Result S
  exec = exec_by look put marked plan

  abbrev footprint : I → S → Result (Footprint P K)
  footprint = footprint_by look via plan

  -- one plan, or one refusal, in two states
  alike : (vs : List P) (o : Result (Plan P K)) (s s' : S) → frozen s ≡ frozen s' → ((p : P) → In p (asked vs o) → look s p ≡ look s' p)
      → (footprint_in look vs s' o ≡ footprint_in look vs s o)
      × Alike look (footprint_in look vs s o) (perform look put marked s o) (perform look put marked s' o)
  alike vs (refused n) s s' f h = (refl, (refl, refl))
  alike vs (done pl) s s' f h =
      subst Both (ap pl.make (looks_alike look s s' pl.source (λ p m. h p (Memᴰ-append_right vs m)))) (same (pl.make (looks look s pl.source)))
    where
      Both : Result (List ℕ) → Type 0
      Both made =
          (map_result (λ ws. footprint_of vs pl) made ≡ footprint_in look vs s (done pl))
          × Alike look (footprint_in look vs s (done pl)) (perform look put marked s (done pl)) (map_result (leaves put marked pl s') made)

      same : (made : Result (List ℕ))
          → (map_result (λ ws. footprint_of vs pl) made ≡ map_result (λ ws. footprint_of vs pl) made)
          × Alike look (map_result (λ ws. footprint_of vs pl) made) (map_result (leaves put marked pl s) made) (map_result (leaves put marked pl s') made)
      same (refused n) = (refl, (refl, refl))
      same (done ws) = (refl, λ p m. leaves_same look put marked frozen KindsMeet laws pl s s' ws p f m)

  -- states that agree on what is frozen and on the places that a step asks give it one footprint, and it goes alike in both
  pub honest : Local look frozen via plan → (i : I) (s s' : S) → frozen s ≡ frozen s'
      → ((p : P) → In p (asked (via i) (plan i s)) → look s p ≡ look s' p)
      → (footprint i s' ≡ footprint i s)
      × Alike look (footprint i s) (exec i s) (exec i s')
  honest local i s s' f h =
      subst (λ (o : Result (Plan P K)).
      (footprint_in look (via i) s' o ≡ footprint i s)
      × Alike look (footprint i s) (exec i s) (perform look put marked s' o))
      (local i s s' f (λ p m. h p (via-asked (via i) (plan i s) p m)))
      (alike (via i) (plan i s) s s' f h)

  -- a step that completes changes nothing frozen, and no place but those that its footprint writes
  pub untouched : (i : I) (s t : S) (f : Footprint P K) → exec i s ≡ done t → footprint i s ≡ done f
      → (frozen t ≡ frozen s) × ((q : P) → ¬ In q f.writes → look t q ≡ look s q)
  untouched i s t f e h =
      let (pl, vs, ep, em, et) = completed look put marked via plan i s t e in
      let ef : footprint_of (via i) pl ≡ f = cc (completes look put marked via plan i s pl vs ep em).1 in (
        ap frozen et ∙ leaves-frozen look put marked frozen KindsMeet laws pl s vs,
        λ q n. ap (λ (u : S). look u q) et
            ∙ leaves-look look put marked frozen KindsMeet laws pl s vs q (λ m. n (subst (λ (g : Footprint P K). In q g.writes) ef m)),
      )
