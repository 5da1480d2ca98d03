-- Past the bytes of an operand in memory: what the code has read is what the reader reads, and what it has summed up is the address. Rules for the
-- functions of pointers.
use Rattle.std.specs.Prelude.{◌≡◌, refl, Bool, false, true, cond, List, ℕ, ◌+◌, ◌*◌, ◌/◌, ◌%◌, ◌^◌, ◌≤◌, ◌<◌, eqb, length, get_or, take, drop, Option, IfSome}
use Rattle.std.proofs.lemmas.Option.{IfSome_then}
use Rattle.basis.specs.Names.{some}
use Rattle.basis.proofs.Names.{sym, ap, subst, ◌∙◌, add-zero, zero-add, add-mod-mod, mod-add-mod, mod-mod, and-false, or-false, arith, eq-eqb, ne_eqb, le-leb}
use Rattle.words.specs.Number.{number}
use Rattle.words.specs.Buffer.{loaded}
use Rattle.codec.specs.Operands.{has_sib, displacement_size, operand_of}
use Rattle.codec.proofs.Steps.{sib_on, sib_not, displacement_on, number_1}
use Rattle.manual.specs.Addresses.{signed_byte, displacement_of, base_of, index_of, register_part, address}
use Rattle.machine.specs.declared.pointers.Pointer.{Pointer}
use Rattle.machine.specs.inner.Pointers.{Displaced, Points}
use Rattle.machine.proofs.laws.addresses.Addressing.{base_is, base_is_five, no_base, sum_plain, sum_sib}

abbrev pointer : ℕ → ℕ → Pointer
pointer address next = record { address = address; next = next }

module _ (start : ℕ) (code : List ℕ) (at : ℕ) where
  -- no displacement, a byte, and four bytes
  past_nothing : (mode : ℕ) → start < 2 ^ 32 → at ≤ length code → Displaced (pointer start at) start mode 0 code at
  unfolding displacement_of
  past_nothing mode h l = record { room = omega arith; next = sym (add-zero at); address = still ∙ ap (λ (n : ℕ). (start + n % 2 ^ 32) % 2 ^ 32) (sym (none (eqb mode 1))) }
    where
      still : start ≡ (start + 0 % 2 ^ 32) % 2 ^ 32
      still = omega arith

      none : (t : Bool) → cond t (signed_byte 0) 0 ≡ 0
      none true = refl
      none false = refl

  pub past_byte : (modrm byte x r : ℕ) → 64 ≤ modrm → modrm < 128 → (at < length code) × ((d : ℕ) → byte ≡ get_or code at d) → x ≡ signed_byte byte % 2 ^ 32
      → r ≡ (start + x) % 2 ^ 32 → Displaced (pointer r (at + 1)) start (modrm / 64) (displacement_size (modrm / 64) 0 0) code at
  unfolding displacement_size displacement_of
  past_byte modrm byte x r h k (l, b) e f =
      let m : modrm / 64 ≡ 1 = omega arith in
      let d : byte ≡ number (take 1 (drop at code)) = b 0 ∙ number_1 code at 1 (get_or code at 0) refl (omega arith) (omega arith) in
      simp m (record { room = omega arith; next = refl; address = f ∙ ap (λ (n : ℕ). (start + n) % 2 ^ 32) (e ∙ ap (λ (n : ℕ). signed_byte n % 2 ^ 32) d) })

  pub past_four : (d r : ℕ) → at + 4 ≤ length code → d ≡ loaded code at 4 → r ≡ (start + d) % 2 ^ 32
      → Displaced (pointer r (at + 4)) start 2 4 code at
  unfolding loaded displacement_of
  past_four d r l e f =
      let n : d ≡ number (take 4 (drop at code)) = e ∙ simp (le-leb (at + 4) (length code) l) in
      record { room = omega arith; next = refl; address = rw (← n) (f ∙ sym (add-mod-mod start d (2 ^ 32))) }

  module _ (r : Option Pointer) (modrm : ℕ) where
    pub past_long : IfSome r (λ p. Displaced p start 2 4 code at) → 128 ≤ modrm → modrm < 192
        → IfSome r (λ p. Displaced p start (modrm / 64) (displacement_size (modrm / 64) 0 0) code at)
    unfolding displacement_size
    past_long u h k = let m : modrm / 64 ≡ 2 = omega arith in simp m u

-- four bytes are not extended at mod 00 either
bare_mode : {p : Pointer} {start : ℕ} {code : List ℕ} {at : ℕ} → Displaced p start 2 4 code at → Displaced p start 0 4 code at
unfolding displacement_of
bare_mode d = record { room = d.room; next = d.next; address = d.address }

-- how many bytes a displacement has, with a base of this number: at mod 00 four with base 101
module _ (base : ℕ) where
  size_past : (mode : ℕ) → (mode ≡ 0 → ⊥) → displacement_size mode 4 base ≡ displacement_size mode 0 0
  unfolding displacement_size
  size_past mode h = simp (ne_eqb mode 0 h)

  size_nothing : (base ≡ 5 → ⊥) → displacement_size 0 4 base ≡ 0
  unfolding displacement_size
  size_nothing h = simp (ne_eqb base 5 h)

  size_four : base ≡ 5 → displacement_size 0 4 base ≡ 4
  unfolding displacement_size
  size_four h = simp h

  -- a base without an SIB byte is such a base too
  size_plain : (mode : ℕ) → (base ≡ 4 → ⊥) → displacement_size mode base 0 ≡ displacement_size mode 4 base
  unfolding displacement_size
  size_plain mode h = simp (ne_eqb base 4 h, or-false)

-- what the base adds to the index, at mod 00, 01 and 10
module _ (integers : List ℕ) (base index : ℕ) (code : List ℕ) (at modrm : ℕ) where
  abbrev mode : ℕ
  mode = modrm / 64

  abbrev PastBase : Pointer → Type 0
  PastBase p = Displaced p (register_part integers (base_of mode base) + index) mode (displacement_size mode 4 base) code at

  -- a start is that sum, wrapped or not
  from_start : (p : Pointer) (start m : ℕ) → m ≡ mode → start % 2 ^ 32 ≡ (register_part integers (base_of mode base) + index) % 2 ^ 32
      → Displaced p start m (displacement_size mode 4 base) code at → PastBase p
  from_start p start m same e d =
      let v = displacement_of m (number (take (displacement_size mode 4 base) (drop at code))) % 2 ^ 32 in
      record {
        room = d.room;
        next = d.next;
        address = d.address ∙ sym (mod-add-mod start (2 ^ 32) v) ∙ ap (λ (n : ℕ). (n + v) % 2 ^ 32) e ∙ mod-add-mod _ (2 ^ 32) v
            ∙ ap (λ (k : ℕ). (register_part integers (base_of mode base) + index + displacement_of k (number (take (displacement_size mode 4 base) (drop at code))) % 2 ^ 32) % 2 ^ 32) same;
      }

  module _ (start : ℕ) (summed : start ≡ (get_or integers base 0 + index) % 2 ^ 32) where
    -- the base is there
    based : base_of mode base ≡ some base → start % 2 ^ 32 ≡ (register_part integers (base_of mode base) + index) % 2 ^ 32
    based e = rw (summed, e) (mod-mod (get_or integers base 0 + index) (2 ^ 32))

    pub base_displaced : (r : Option Pointer) → 64 ≤ modrm → IfSome r (λ p. Displaced p start mode (displacement_size mode 0 0) code at) → IfSome r PastBase
    base_displaced r h given =
        let other : mode ≡ 0 → ⊥ = λ z. omega arith in
        IfSome_then r given (λ p d. from_start p start mode refl (based (base_is_five base mode other)) (rw (size_past base mode other) d))

    pub base_bare : modrm < 64 → (base ≡ 5 → ⊥) → start < 2 ^ 32 → at ≤ length code → PastBase (pointer start at)
    base_bare h other fits l =
        let none : mode ≡ 0 = omega arith in
        from_start (pointer start at) start mode refl (based (base_is base mode other))
        (subst (λ (k : ℕ). Displaced (pointer start at) start mode k code at) (sym (ap (λ (m : ℕ). displacement_size m 4 base) none ∙ size_nothing base other))
        (past_nothing start code at mode fits l))

  pub base_absent : (r : Option Pointer) → modrm < 64 → base ≡ 5 → IfSome r (λ p. Displaced p index 2 4 code at) → IfSome r PastBase
  base_absent r h five given =
      let none : mode ≡ 0 = omega arith in
      IfSome_then r given
      (λ p d.
      from_start p index 0 (sym none) (rw (no_base base mode five none, zero-add) refl)
      (subst (λ (k : ℕ). Displaced p index 0 k code at) (sym (ap (λ (m : ℕ). displacement_size m 4 base) none ∙ size_four base five)) (bare_mode d)))

-- past all that a ModRM byte asks for
module _ (integers code : List ℕ) (at modrm : ℕ) (memory : modrm < 192) (r : Option Pointer) where
  pub points_plain : (modrm % 8 ≡ 4 → ⊥)
      → IfSome r (λ p. Displaced p (register_part integers (base_of (modrm / 64) (modrm % 8)) + 0) (modrm / 64) (displacement_size (modrm / 64) 4 (modrm % 8)) code at)
      → IfSome r (λ p. Points p integers code at modrm)
  unfolding has_sib
  points_plain plain given =
      IfSome_then r given
      (λ p d.
      let size = displacement_size (modrm / 64) 4 (modrm % 8) in
      let v = number (take size (drop at code)) in
      record {
        sib = 0;
        displacement = v;
        read = λ form first second entry.
            rw d.next
            (sib_not code at form first second entry _ modrm false (simp (ne_eqb (modrm % 8) 4 plain, and-false)) refl
            (displacement_on code at form first second entry _ modrm 0 size (sym (size_plain (modrm % 8) (modrm / 64) plain)) v (operand_of modrm 0 v) (omega (arith, d.room)) refl refl refl));
        room = omega (arith, d.next, d.room);
        address = sum_plain integers (operand_of modrm 0 v) _ refl (register_part integers (base_of (modrm / 64) (modrm % 8))) p.address plain refl (rw add-zero at d.address);
      })

  pub points_sib : (sib x : ℕ) → modrm % 8 ≡ 4 → at < length code → sib ≡ get_or code at 0
      → x ≡ register_part integers (index_of (sib / 8 % 8)) * 2 ^ (sib / 64) % 2 ^ 32
      → IfSome r (λ p. Displaced p (register_part integers (base_of (modrm / 64) (sib % 8)) + x) (modrm / 64) (displacement_size (modrm / 64) 4 (sib % 8)) code (at + 1))
      → IfSome r (λ p. Points p integers code at modrm)
  unfolding has_sib
  points_sib sib x four here e scaled given =
      IfSome_then r given
      (λ p d.
      let size = displacement_size (modrm / 64) 4 (sib % 8) in
      let v = number (take size (drop (at + 1) code)) in
      let other : modrm / 64 ≡ 3 → ⊥ = λ z. omega arith in
      let start = register_part integers (base_of (modrm / 64) (sib % 8)) in
      record {
        sib = sib;
        displacement = v;
        read = λ form first second entry.
            rw d.next
            (sib_on code at form first second entry _ modrm true (simp (ne_eqb (modrm / 64) 3 other, eq-eqb (modrm % 8) 4 four)) refl here
            (rw (← e)
            (displacement_on code (at + 1) form first second entry _ modrm sib size (ap (λ (n : ℕ). displacement_size (modrm / 64) n (sib % 8)) (sym four)) v
            (operand_of modrm sib v) (omega (arith, d.room)) refl refl refl)));
        room = omega (arith, d.next, d.room);
        address = sum_sib integers (operand_of modrm sib v) _ refl start _ x ((start + x) % 2 ^ 32) p.address other four refl refl scaled refl
            (d.address ∙ sym (mod-add-mod (start + x) (2 ^ 32) _));
      })

pub index_scaled : (part index scale r : ℕ) → index ≡ part → r ≡ index * 2 ^ scale % 2 ^ 32 → r ≡ part * 2 ^ scale % 2 ^ 32
index_scaled part index scale r e h = rw (← e) h

-- past the base
pub ruleset basing = (base_displaced, base_bare, base_absent)
