-- The swap law of plans: the first changes nothing that the second goes by, nor the second what the first goes by, and their targets are apart.
use Rattle.std.specs.Prelude.{◌≡◌, refl, ◌⊎◌, List, ℕ}
use Rattle.basis.proofs.Names.{false≢true, sym, ap, ◌∙◌, subst, inl, inr, Memᴰ-append_left, Memᴰ-append_right}
use Rattle.reorder.specs.Result.{Result, done, refused, map_result}
use Rattle.reorder.specs.Plan.{Plan, looks, leaves, perform, exec_by}
use Rattle.reorder.specs.Footprint.{Footprint, footprint_of, footprint_in, footprint_by, Share, Meets}
use Rattle.reorder.proofs.Reordering.{Swap}
use Rattle.reorder.proofs.Places.{Laws, Local, Apart, looks_alike, leaves-frozen, leaves-look, leaves_comm}

module _ {S P K I : Type 0} (look : S → P → ℕ) (put : S → P → ℕ → S) (marked : K → S → S) (via : I → List P) (plan : I → S → Result (Plan P K)) where
  -- a step completes exactly as its plan does
  module _ (i : I) (s : S) where
    pub completes : (pl : Plan P K) (vs : List ℕ) → plan i s ≡ done pl → pl.make (looks look s pl.source) ≡ done vs
        → (exec_by look put marked plan i s ≡ done (leaves put marked pl s vs)) × (footprint_by look via plan i s ≡ done (footprint_of (via i) pl))
    completes pl vs e m = (
      ap (perform look put marked s) e ∙ ap (map_result (leaves put marked pl s)) m,
      ap (footprint_in look (via i) s) e ∙ ap (map_result (λ ws. footprint_of (via i) pl)) m,
    )

    -- the plan of a step that completes, and what it makes
    abbrev pub Planned : S → Type 0
    Planned t =
        (pl : Plan P K) × (vs : List ℕ) × (plan i s ≡ done pl) × (pl.make (looks look s pl.source) ≡ done vs) × (t ≡ leaves put marked pl s vs)

    pub completed : (t : S) → exec_by look put marked plan i s ≡ done t → Planned t
    completed t e = planned (plan i s) refl
      where
        made : (pl : Plan P K) → plan i s ≡ done pl → (o : Result (List ℕ)) → pl.make (looks look s pl.source) ≡ o → Planned t
        made pl ep (done vs) em = (pl, vs, ep, em, cc (completes pl vs ep em).0)
        made pl ep (refused n) em =
            let z : refused n ≡ done t = sym (ap (perform look put marked s) ep ∙ ap (map_result (leaves put marked pl s)) em) ∙ e in
            absurd (false≢true (cc))

        planned : (o : Result (Plan P K)) → plan i s ≡ o → Planned t
        planned (done pl) ep = made pl ep (pl.make (looks look s pl.source)) refl
        planned (refused n) ep =
            let z : refused n ≡ done t = sym (ap (perform look put marked s) ep) ∙ e in
            absurd (false≢true (cc))

module _ {S P K Z I : Type 0} (look : S → P → ℕ) (put : S → P → ℕ → S) (marked : K → S → S) (frozen : S → Z) (KindsMeet : K → K → Type 0)
    (laws : Laws look put marked frozen KindsMeet) (via : I → List P) (plan : I → S → Result (Plan P K)) (local : Local look frozen via plan) where
  abbrev exec : I → S → Result S
  exec = exec_by look put marked plan

  abbrev footprint : I → S → Result (Footprint P K)
  footprint = footprint_by look via plan

  abbrev after : Plan P K → S → List ℕ → S
  after = leaves put marked

  -- after another step that writes nothing it goes by, and nothing frozen, a step does what it did
  unmoved : (b : I) (pa pb : Plan P K) (s : S) (vs : List ℕ) → Apart pa.target (via b) → Apart pa.target pb.source
      → (plan b (after pa s vs) ≡ plan b s) × (looks look (after pa s vs) pb.source ≡ looks look s pb.source)
  unmoved b pa pb s vs d e = (
    local b (after pa s vs) s (leaves-frozen look put marked frozen KindsMeet laws pa s vs)
        (λ p m. leaves-look look put marked frozen KindsMeet laws pa s vs p (λ x. d p x m)),
    looks_alike look (after pa s vs) s pb.source (λ p m. leaves-look look put marked frozen KindsMeet laws pa s vs p (λ x. e p x m)),
  )

  abbrev Swapped : I → I → S → S → S → Type 0
  Swapped a b s s₁ s₂ =
      (s₁' : S) × (exec b s ≡ done s₁') × (exec a s₁' ≡ done s₂) × (footprint b s ≡ footprint b s₁) × (footprint a s₁' ≡ footprint a s)

  -- two plans that don't meet
  swapped : (a b : I) (s s₂ : S) (pa pb : Plan P K) (vs ws : List ℕ)
      → plan a s ≡ done pa → pa.make (looks look s pa.source) ≡ done vs
      → plan b (after pa s vs) ≡ done pb → pb.make (looks look (after pa s vs) pb.source) ≡ done ws → s₂ ≡ after pb (after pa s vs) ws
      → ¬ (KindsMeet pa.kind pb.kind ⊎ Share (footprint_of (via a) pa) (footprint_of (via b) pb))
      → Swapped a b s (after pa s vs) s₂
  swapped a b s s₂ pa pb vs ws epa ema epb emb e₂ n =
      let ub = unmoved b pa pb s vs
      (λ p m x. n (inr (inl (p, m, inl (Memᴰ-append_left pb.source x)))))
      (λ p m x. n (inr (inl (p, m, inl (Memᴰ-append_right (via b) x))))) in
      let ua = unmoved a pb pa s ws
      (λ p m x. n (inr (inr (p, m, inl (Memᴰ-append_left pa.source x)))))
      (λ p m x. n (inr (inr (p, m, inl (Memᴰ-append_right (via a) x))))) in
      let fb = completes look put marked via plan b s pb ws (sym ub.0 ∙ epb) (ap pb.make (sym ub.1) ∙ emb) in
      let fa = completes look put marked via plan a (after pb s ws) pa vs (ua.0 ∙ epa) (ap pa.make ua.1 ∙ ema) in (
        after pb s ws,
        fb.0,
        fa.0 ∙ ap done (sym (leaves_comm look put marked frozen KindsMeet laws pa pb s vs ws (λ p m x. n (inr (inl (p, m, inr x)))) (λ k. n (inl k))) ∙ sym e₂),
        fb.1 ∙ sym (completes look put marked via plan b (after pa s vs) pb ws epb emb).1,
        fa.1 ∙ sym (completes look put marked via plan a s pa vs epa ema).1,
      )

  pub swap : Swap S I (Result (Footprint P K)) exec footprint (Meets KindsMeet)
  swap a b s s₁ s₂ ea eb n =
      let (pa, vs, epa, ema, e₁) = completed look put marked via plan a s s₁ ea in
      let eb' : exec b (after pa s vs) ≡ done s₂ = subst (λ (t : S). exec b t ≡ done s₂) e₁ eb in
      let (pb, ws, epb, emb, e₂) = completed look put marked via plan b (after pa s vs) s₂ eb' in
      subst (λ (t : S). Swapped a b s t s₂) (sym e₁)
      (swapped a b s s₂ pa pb vs ws epa ema epb emb e₂
      (λ m. n (subst (λ (t : S). Meets KindsMeet (footprint a s) (footprint b t)) (sym e₁)
      (rw ((completes look put marked via plan a s pa vs epa ema).1, (completes look put marked via plan b (after pa s vs) pb ws epb emb).1) m))))
