-- What was found past the ModRM byte, or without one, and the work that does it: two registers, a register and memory, a shift by an immediate, EMMS.
-- Rules for the functions that read and gather.
use Rattle.std.specs.Prelude.{◌≡◌, refl, Bool, true, false, List, ℕ, ◌+◌, ◌/◌, ◌%◌, ◌^◌, ◌≤◌, ◌<◌, leb, length, get_or, Option, IfSome, Result}
use Rattle.std.proofs.lemmas.Option.{IfSome_then}
use Rattle.basis.proofs.Names.{sym, ap, subst, ◌∙◌, arith, ne_eqb}
use Rattle.lanes.specs.Operations.{operation_of, described, MOVE}
use Rattle.words.specs.Buffer.{loaded}
use Rattle.codec.specs.Forms.{allows, memory_size, accepts}
use Rattle.codec.specs.Operands.{upper, middle, lower, operand_of, no_operand}
use Rattle.codec.specs.Table.{form_of}
use Rattle.codec.specs.Opcodes.{escape}
use Rattle.codec.specs.Reads.{instruction_of}
use Rattle.codec.specs.inner.Entries.{shift_of}
use Rattle.codec.specs.declared.Found.{Found}
use Rattle.codec.specs.declared.Operand.{Operand}
use Rattle.codec.proofs.Given.{no_registers, registers_of_lem}
use Rattle.works.specs.declared.Work.{Work}
use Rattle.reorder.specs.Result as outcome
use Rattle.machine.specs.declared.operands.Spot.{Spot}
use Rattle.machine.specs.declared.operands.Spot.TheVariants.{Mmx, Integer}
use Rattle.machine.specs.declared.pointers.Pointer.{Pointer}
use Rattle.machine.specs.inner.Pointers.{Points}
use Rattle.machine.specs.inner.Quick.{Quick, after_opcode, QuickAfter, SuffixAt, SuffixInMemory}
use Rattle.machine.specs.inner.Spots.{other_of, spot_of}
use Rattle.machine.specs.inner.Ways.{is_integer, is_store, way_of}
use Rattle.works.specs.Works.{to_operate, to_integer, to_empty, work_of}
use Rattle.works.specs.Siblings.{suffixed_work}
use Rattle.machine.specs.inner.Works.{Listed, put_work, take_work}
use Rattle.machine.specs.declared.ways.Way.TheVariants.{Suffixes}
use Rattle.machine.proofs.laws.gathering.Sorting.{does_empties, does_shift}
use Rattle.machine.proofs.laws.gathering.Suffixing.{does_suffix}
use Rattle.machine.proofs.laws.operands.Locating.{spot_mmx, spot_integer, spot_inside}
use Rattle.machine.proofs.laws.ways.Numbering.{way_empties, way_shifts, way_suffixes, two_from}
use Rattle.machine.proofs.laws.quick.Operands.{work_at, AtAddress, does_two}
use Rattle.machine.proofs.laws.quick.Finding.{found_as, after_alone, after_registers, after_suffix, after_shift, after_memory, after_memory_suffix}

-- a work that does what was found after an opcode
module _ (registers integers m : List ℕ) (entry : ℕ) (code : List ℕ) (at : ℕ) (work : Work) where
  does_found : (x : ℕ → Result Found ℕ) → ((second : ℕ) → x second ≡ after_opcode entry second code at) → ((second : ℕ) → Quick work registers integers m (x second))
      → QuickAfter work registers integers m entry code at
  does_found x e q = record { quick = λ second. subst (λ (y : Result Found ℕ). Quick work registers integers m y) (e second) (q second) }

module _ (registers integers m : List ℕ) (entry modrm : ℕ) (code : List ℕ) (at : ℕ) (here : at < length code) (named : modrm ≡ get_or code at 0) where
  abbrev form : ℕ
  form = entry / 2 ^ 24

  abbrev Answered : Work → Type 0
  Answered work = QuickAfter work registers integers m entry code at

  -- two registers
  module _ (register : 192 ≤ modrm) (byte : modrm < 256) where
    abbrev w : Operand
    w = operand_of modrm 0 0

    mode_is : upper modrm ≡ 3
    mode_is = omega arith

    abbrev Here : outcome.Result Spot
    Here = spot_of integers (length m) (other_of form w)

    mmx_there : Listed entry → 15 ≤ form → is_integer form ≡ false → outcome.done (Mmx (lower modrm)) ≡ Here
    mmx_there l two h = spot_mmx integers (length m) entry w l (two_from form two) mode_is (is_integer form) refl h

    integer_there : Listed entry → 15 ≤ form → is_integer form ≡ true → outcome.done (Integer (lower modrm)) ≡ Here
    integer_there l two h = spot_integer integers (length m) entry w l (two_from form two) mode_is (is_integer form) refl h

    module _ (work : Work) where
      of_registers_lem : 17 ≤ form → (Listed entry → work ≡ work_at registers integers m entry (middle modrm) Here (at + 1))
          → Answered work
      of_registers_lem two made =
          does_found registers integers m entry code at work (λ second. found_as entry second w 0 (at + 1)) found_here
          (λ second.
          record {
            x = _;
            passed = refl;
            escaped = refl;
            present = λ z. omega arith;
            does = λ l. does_two registers integers m entry (instruction_of escape second w 0) (at + 1) (registers_of_lem modrm 0 0) l (omega arith) (λ z. omega arith) work (made l);
          })
        where
          found_here : (second : ℕ) → found_as entry second w 0 (at + 1) ≡ after_opcode entry second code at
          found_here second =
              rw (← named) at (after_registers entry second code at here (rw (← named) register) (rw (← named) byte) (omega arith) (λ z. omega arith))

      -- the work of a register that is there
      take_there : (x : outcome.Result Spot) → x ≡ Here → is_store form ≡ false → work ≡ take_work registers integers m (entry % 256) (middle modrm) x (at + 1)
          → work ≡ work_at registers integers m entry (middle modrm) Here (at + 1)
      take_there x e f made = simp f (made ∙ ap (λ (y : outcome.Result Spot). take_work registers integers m (entry % 256) (middle modrm) y (at + 1)) e)

      put_there : (x : outcome.Result Spot) → x ≡ Here → is_store form ≡ true → work ≡ put_work x (get_or registers (middle modrm) 0) (at + 1)
          → work ≡ work_at registers integers m entry (middle modrm) Here (at + 1)
      put_there x e f made = simp f (made ∙ ap (λ (y : outcome.Result Spot). put_work y (get_or registers (middle modrm) 0) (at + 1)) e)

      pub takes_mmx : 20 ≤ form → work ≡ work_of to_operate (entry % 256) (middle modrm) (get_or registers (lower modrm) 0) (at + 1) → Answered work
      takes_mmx h made =
          of_registers_lem (omega arith)
          (λ l.
          take_there (outcome.done (Mmx (lower modrm)))
          (mmx_there l (omega arith) (simp (ne_eqb form 4 (λ z. omega arith), ne_eqb form 17 (λ z. omega arith), ne_eqb form 18 (λ z. omega arith))))
          (simp (ne_eqb form 15 (λ z. omega arith), ne_eqb form 17 (λ z. omega arith), ne_eqb form 19 (λ z. omega arith))) made)

      pub takes_integer : form ≡ 18 → work ≡ work_of to_operate (entry % 256) (middle modrm) (get_or integers (lower modrm) 0) (at + 1) → Answered work
      takes_integer h made =
          of_registers_lem (omega arith)
          (λ l. take_there (outcome.done (Integer (lower modrm))) (integer_there l (omega arith) (ap is_integer h)) (ap is_store h) made)

      pub puts_mmx : form ≡ 19 → work ≡ work_of to_operate (described MOVE).number (lower modrm) (get_or registers (middle modrm) 0) (at + 1) → Answered work
      puts_mmx h made =
          of_registers_lem (omega arith)
          (λ l. put_there (outcome.done (Mmx (lower modrm))) (mmx_there l (omega arith) (ap is_integer h)) (ap is_store h) made)

      pub puts_integer : form ≡ 17 → work ≡ work_of to_integer 0 (lower modrm) (get_or registers (middle modrm) 0) (at + 1) → Answered work
      puts_integer h made =
          of_registers_lem (omega arith)
          (λ l. put_there (outcome.done (Integer (lower modrm))) (integer_there l (omega arith) (ap is_integer h)) (ap is_store h) made)

    -- a suffix behind the registers
    module _ (is : form ≡ 16) where
      behind : (work : Work) → SuffixAt work (get_or registers (middle modrm) 0) (middle modrm) (get_or registers (lower modrm) 0) code (at + 1) → Answered work
      behind work q =
          does_found registers integers m entry code at work (λ second. found_as entry second w suffix (at + 1 + 1)) found_here
          (λ second.
          record {
            x = _;
            passed = refl;
            escaped = refl;
            present = λ z. omega arith;
            does = λ l.
                does_suffix registers integers m entry (instruction_of escape second w suffix) (at + 1 + 1) (registers_of_lem modrm 0 0) l Suffixes (way_suffixes form is) work refl
                (q.is
                ∙ ap (λ (x : outcome.Result Spot). suffixed_work suffix (get_or registers (middle modrm) 0) (take_work registers integers m (entry % 256) (middle modrm) x (at + 1 + 1)))
                (mmx_there l (omega arith) (ap is_integer is)));
          })
        where
          suffix : ℕ
          suffix = get_or code (at + 1) 0

          found_here : (second : ℕ) → found_as entry second w suffix (at + 1 + 1) ≡ after_opcode entry second code at
          found_here second =
              rw (← named) at (after_suffix entry second code at here (rw (← named) register) (rw (← named) byte) (get_or code (at + 1) 0) is
              (ap (λ (k : ℕ). accepts (form_of k) (get_or code (at + 1) 0)) is ∙ q.listed) q.room refl)

      pub suffix_behind : (r : Option Work) (v : ℕ) → v ≡ get_or registers (lower modrm) 0
          → IfSome r (λ work. SuffixAt work (get_or registers (middle modrm) 0) (middle modrm) v code (at + 1)) → IfSome r Answered
      suffix_behind r v e given = IfSome_then r (rw e at given) behind

    -- a shift by an immediate
    pub shifts_immediate : (work : Work) (number v : ℕ) (t : Bool) → 2 ≤ form → form ≤ 3 → t ≡ allows (form_of form) 3 (middle modrm) (lower modrm) → t ≡ true
        → (at + 1 < length code) × ((d : ℕ) → v ≡ get_or code (at + 1) d) → operation_of number ≡ shift_of (entry / 2 ^ 8 % 256) (middle modrm)
        → work ≡ work_of to_operate number (lower modrm) v (at + 2) → Answered work
    shifts_immediate work number v t low high test allowed (more, e) o made =
        does_found registers integers m entry code at work (λ second. found_as entry second w v (at + 2)) found_here
        (λ second.
        record {
          x = _;
          passed = refl;
          escaped = refl;
          present = λ z. omega arith;
          does = λ l.
              does_shift registers integers m entry (instruction_of escape second w v) (at + 2) (registers_of_lem modrm 0 0) l (way_of form) refl work number
              (sym (way_shifts form (omega arith) (omega arith) (omega arith))) o made;
        })
      where
        allows_it : true ≡ allows (form_of form) (upper (get_or code at 0)) (middle (get_or code at 0)) (lower (get_or code at 0))
        allows_it = rw (← named, mode_is) (sym allowed ∙ test)

        found_here : (second : ℕ) → found_as entry second w v (at + 2) ≡ after_opcode entry second code at
        found_here second =
            let past : at + 2 ≡ at + 1 + 1 = omega arith in
            ap (found_as entry second w v) past ∙ rw (← named) at (after_shift entry second code at here (rw (← named) register) (rw (← named) byte) v low high allows_it more (e 0))

  -- EMMS
  pub empties : (work : Work) → form ≡ 1 → work ≡ work_of to_empty 0 0 0 at → Answered work
  empties work e made =
      does_found registers integers m entry code at work (λ second. found_as entry second no_operand 0 at)
      (λ second. after_alone entry second code at e (omega arith))
      (λ second.
      record {
        x = _;
        passed = refl;
        escaped = refl;
        present = λ z. omega arith;
        does = λ l.
            does_empties registers integers m entry (instruction_of escape second no_operand 0) at no_registers l
            (way_of form) refl work (sym (way_empties form (omega arith) (omega arith))) made;
      })

  -- a register and memory
  module _ (memory : modrm < 192) (p : Pointer) (t : Points p integers code (at + 1) modrm) (r : Option Work) where
    pub in_place : IfSome r (λ work. AtAddress work registers m entry (middle modrm) p.address p.next) → IfSome r Answered
    in_place given =
        IfSome_then r given
        (λ work a.
        let w = operand_of modrm t.sib t.displacement in
        does_found registers integers m entry code at work (λ second. found_as entry second w 0 p.next)
        (λ second. after_memory entry second code at here integers p (at + 1) modrm refl named t memory a.two a.plain)
        (λ second.
        record {
          x = _;
          passed = refl;
          escaped = refl;
          present = λ z. omega (arith, a.two);
          does = λ l.
              does_two registers integers m entry (instruction_of escape second w 0) p.next (registers_of_lem modrm t.sib t.displacement) l a.two a.plain work
              (a.made l
              ∙ ap (λ (x : outcome.Result Spot). work_at registers integers m entry (middle modrm) x p.next)
              (spot_inside integers (length m) entry w l (two_from form a.two) (λ z. omega arith) p.address t.address true (sym (a.inside l)) refl));
        }))

    -- and a suffix behind them
    pub suffix_in_place : form ≡ 16 → IfSome r (λ work. SuffixInMemory work (get_or registers (middle modrm) 0) (middle modrm) m p.address code p.next) → IfSome r Answered
    suffix_in_place is given =
        IfSome_then r given
        (λ work q.
        let w = operand_of modrm t.sib t.displacement in
        let v = get_or code p.next 0 in
        does_found registers integers m entry code at work (λ second. found_as entry second w v (p.next + 1))
        (λ second.
        after_memory_suffix entry second code at here integers p (at + 1) modrm refl named t memory v is
        (ap (λ (k : ℕ). accepts (form_of k) v) is ∙ q.suffixed.listed) q.suffixed.room refl)
        (λ second.
        record {
          x = _;
          passed = refl;
          escaped = refl;
          present = λ z. omega arith;
          does = λ l.
              does_suffix registers integers m entry (instruction_of escape second w v) (p.next + 1) (registers_of_lem modrm t.sib t.displacement) l Suffixes (way_suffixes form is) work refl
              (let size : entry / 2 ^ 16 % 256 ≡ 8 = l.sized ∙ ap (λ (k : ℕ). memory_size (form_of k)) is in
              q.suffixed.is
              ∙ ap (λ (k : ℕ). suffixed_work v (get_or registers (middle modrm) 0) (work_of to_operate 0 (middle modrm) (loaded m p.address k) (p.next + 1))) (sym size)
              ∙ ap (λ (x : outcome.Result Spot). suffixed_work v (get_or registers (middle modrm) 0) (take_work registers integers m (entry % 256) (middle modrm) x (p.next + 1)))
              (spot_inside integers (length m) entry w l (two_from form (omega arith)) (λ z. omega arith) p.address t.address true
              (sym (ap (λ (k : ℕ). leb (p.address + k) (length m)) size ∙ q.inside)) refl));
        }))

-- for registers alone
pub ruleset registering = (takes_mmx, takes_integer, puts_mmx, puts_integer, suffix_behind)
