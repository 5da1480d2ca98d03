-- What is read has a number of the table, or that of an instruction of loops: its form is present, as an absent one is refused, and each number keeps
-- what `Listed` or `Looping` says. Rules for what the code looks up.
use Rattle.std.specs.Prelude.{◌≡◌, refl, Bool, true, false, cond, ◌&&◌, ℕ, ◌+◌, ◌/◌, ◌%◌, ◌^◌, ◌≤◌, eqb, leb, ltb, get_or}
use Rattle.basis.specs.Names.{Option, none, some}
use Rattle.basis.proofs.Names.{sym, ap, ap₂, subst, ◌∙◌, false≢true, arith, leb-true, ltb-true, ltb-false, eqb-true, eqb-false}
use Rattle.lanes.specs.Operations.{Operation, KEEP}
use Rattle.codec.specs.Forms.{Form, absent, is_absent, memory_size}
use Rattle.codec.specs.Contents.{loops, jump_if_not_zero}
use Rattle.codec.specs.Opcodes.{escape, form_at, operation_at, is_of, form_of_first}
use Rattle.codec.specs.inner.Fields.{Registers}
use Rattle.codec.specs.Table.{form_of, entry_at, entry_of_first, listed, opcode_table}
use Rattle.codec.specs.Finding.{entry_for}
use Rattle.codec.specs.inner.Entries.{operation_in}
use Rattle.codec.specs.declared.Instruction.{Instruction}
use Rattle.codec.specs.declared.Kind.TheVariants.{Loop}
use Rattle.words.proofs.Laws.{and_both}
use Rattle.codec.proofs.Entries.{agree, table_entry, form_is, operation_is, first_form_is, entry_numbered}
use Rattle.codec.proofs.Bytes.{found_each, form_beyond}
use Rattle.manual.specs.Instructions.{effect_by, effect_of}
use Rattle.machine.specs.inner.Works.{effect_in, owned, is_listed, Listed}
use Rattle.machine.specs.inner.Loops.{Looping}

-- the operation that alone has a form, if there is one, is that of an entry
abbrev owns : Option ℕ → ℕ → Bool
owns none operation = true
owns (some k) operation = eqb operation k

only : (o : Option ℕ) (operation k : ℕ) → owns o operation ≡ true → o ≡ some k → operation ≡ k
only none operation k h e = absurd (false≢true (cc))
only (some j) operation k h e = let same : j ≡ k = cc in eqb-true operation j h ∙ same

-- the numbers are tested by a computation
abbrev passes : ℕ → Bool
passes number =
    is_listed (number / 2 ^ 24)
    && (eqb (number / 2 ^ 16 % 256) (memory_size (form_of (number / 2 ^ 24)))
    && owns (owned (number / 2 ^ 24)) (number % 256))

all_pass : listed (λ k. passes (entry_at k)) 0 256 ≡ listed (λ k. true) 0 256
unfolding form_at operation_at
all_pass = refl

number-listed : (number : ℕ) → passes number ≡ true → (number / 2 ^ 24 ≡ 0 → ⊥) → Listed number
number-listed number h p =
    let (a, rest) = and_both (is_listed (number / 2 ^ 24)) _ h in
    let (b, c) = and_both (eqb (number / 2 ^ 16 % 256) (memory_size (form_of (number / 2 ^ 24)))) _ rest in
    record {
      listed = a;
      present = p;
      sized = eqb-true _ _ b;
      owns = λ k e. only (owned (number / 2 ^ 24)) (number % 256) k c e;
    }

-- a second byte whose form is there has a number that is listed
pub entry_listed : (second : ℕ) → is_absent (form_at second) ≡ false → Listed (get_or opcode_table second 0)
entry_listed second e = by (ltb second 256) refl
  where
    by : (t : Bool) → ltb second 256 ≡ t → Listed (get_or opcode_table second 0)
    by true h =
        let fits = ltb-true second 256 h in
        number-listed (get_or opcode_table second 0)
        (ap passes (table_entry second fits) ∙ agree (λ k. passes (entry_at k)) (λ k. true) true 256 second all_pass fits)
        (λ z. false≢true (sym e ∙ ap is_absent (sym (form_is second)) ∙ ap (λ (n : ℕ). is_absent (form_of n)) z))
    by false h = absurd (false≢true (sym e ∙ ap is_absent (form_beyond second (ltb-false second 256 h))))

-- our table's number has the effect of an instruction with first byte 0F
table_effect : (i : Instruction) → Registers i.operand → effect_in (get_or opcode_table i.second 0) i ≡ effect_by (form_at i.second) (operation_at i.second i.operand.reg) i
table_effect i r = by (ltb i.second 256) refl
  where
    by : (t : Bool) → ltb i.second 256 ≡ t → effect_in (get_or opcode_table i.second 0) i ≡ effect_by (form_at i.second) (operation_at i.second i.operand.reg) i
    by true h = ap₂ (λ (f : Form) (o : Operation). effect_by f o i) (form_is i.second) (operation_is i.second i.operand.reg (ltb-true i.second 256 h) r.reg)
    by false h =
        let none = form_beyond i.second (ltb-false i.second 256 h) in
        ap (λ (f : Form). effect_by f (operation_in (get_or opcode_table i.second 0) i.operand.reg) i) (form_is i.second ∙ none)
        ∙ ap (λ (f : Form). effect_by f (operation_at i.second i.operand.reg) i) (sym none)

-- so has the number of another first byte, for which no operation counts
first_effect : (i : Instruction) → effect_in (entry_of_first i.first) i ≡ effect_by (form_of_first i.first) KEEP i
unfolding form_of_first
first_effect i =
    let entry = entry_of_first i.first in
    ap (λ (f : Form). effect_by f (operation_in entry i.operand.reg) i) (ap form_of (entry_numbered i.first) ∙ first_form_is i.first)
    ∙ any (operation_in entry i.operand.reg) KEEP
  where
    any : (o p : Operation) → effect_by (form_of_first i.first) o i ≡ effect_by (form_of_first i.first) p i
    any o p =
        found_each (λ x. x.form) absent (λ f. effect_by f o i ≡ effect_by f p i) (λ x. is_of x i.first) refl loops (λ h. refl, (λ h. refl, (λ h. refl, (λ h. refl, tt))))

-- so each number has the instruction's effect
pub effect_is : (i : Instruction) → Registers i.operand → effect_in (entry_for opcode_table i) i ≡ effect_of i
unfolding effect_of
effect_is i r = by (eqb i.first escape)
  where
    by : (t : Bool) → effect_in (cond t (get_or opcode_table i.second 0) (entry_of_first i.first)) i
        ≡ effect_by (cond t (form_at i.second) (form_of_first i.first)) (cond t (operation_at i.second i.operand.reg) KEEP) i
    by true = table_effect i r
    by false = first_effect i

-- a first byte whose form is there has the number of one of loops, and tells whether it is the jump
pub entry_looping : (i : Instruction) → is_absent (form_of_first i.first) ≡ false → Looping (entry_of_first i.first) i
unfolding form_of_first
entry_looping i there =
    record {
      least = subst (λ (n : ℕ). 10 ≤ n) (sym (entry_numbered i.first)) among.0;
      most = subst (λ (n : ℕ). n ≤ 13) (sym (entry_numbered i.first)) among.1;
      jumps = jumping (eqb i.first jump_if_not_zero) refl ∙ ap (λ (n : ℕ). eqb n 13) (sym (entry_numbered i.first));
    }
  where
    among : (10 ≤ (form_of_first i.first).number) × ((form_of_first i.first).number ≤ 13)
    among =
        found_each (λ x. x.form) absent (λ f. is_absent f ≡ false → (10 ≤ f.number) × (f.number ≤ 13)) (λ x. is_of x i.first) (λ e. absurd (false≢true (sym e)))
        loops (λ h e. (omega arith, omega arith), (λ h e. (omega arith, omega arith), (λ h e. (omega arith, omega arith), (λ h e. (omega arith, omega arith), tt)))) there

    jumping : (t : Bool) → eqb i.first jump_if_not_zero ≡ t → t ≡ eqb (form_of_first i.first).number 13
    jumping true e = ap (λ (n : ℕ). eqb (form_of_first n).number 13) (sym (eqb-true i.first jump_if_not_zero e))
    jumping false e =
        found_each (λ x. x.form) absent (λ f. false ≡ eqb f.number 13) (λ x. is_of x i.first) refl loops (λ h. refl, (λ h. refl, (λ h. absurd (other h), (λ h. refl, tt))))
      where
        other : (leb jump_if_not_zero i.first && ltb i.first (jump_if_not_zero + 1)) ≡ true → ⊥
        other h =
            let (a, b) = and_both (leb jump_if_not_zero i.first) _ h in
            eqb-false i.first jump_if_not_zero e (omega (arith, leb-true jump_if_not_zero i.first a, ltb-true i.first (jump_if_not_zero + 1) b))

-- and its kind is theirs
pub loop_kind : (first : ℕ) → is_absent (form_of_first first) ≡ false → (form_of_first first).kind ≡ Loop
unfolding form_of_first
loop_kind first =
    found_each (λ x. x.form) absent (λ f. is_absent f ≡ false → f.kind ≡ Loop) (λ x. is_of x first) (λ e. absurd (false≢true (sym e)))
    loops (λ h e. refl, (λ h e. refl, (λ h e. refl, (λ h e. refl, tt))))
