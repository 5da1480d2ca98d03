-- The kinds of instruction: what each does to the tag mark, whether the control marks stop it, and which kinds meet.
use Rattle.std.specs.Prelude.{◌≡◌, Bool, true, false}
use Rattle.codec.specs.declared.Kind.{Kind}
use Rattle.codec.specs.declared.Kind.TheVariants.{Ordinary, Emms, Silent, Loop}
use Rattle.manual.specs.declared.Marks.{Marks}
use Rattle.manual.specs.State.{State, with_tag}

-- a completed instruction sets the tag mark valid, and EMMS sets it empty; prefetches, SFENCE and those of loops keep it
abbrev pub marked : Kind → State → State
marked Ordinary s = with_tag s true
marked Emms s = with_tag s false
marked Silent s = s
marked Loop s = s

-- a control mark that is set stops every instruction but prefetches, SFENCE and those of loops
abbrev pub stops : Kind → Bool → Bool
stops Ordinary mark = mark
stops Emms mark = mark
stops Silent mark = false
stops Loop mark = false

-- the marks as a kind heeds them: what does not stop it is clear
abbrev pub heeded : Kind → Marks → Marks
heeded kind marks =
    record { valid = marks.valid; zero = marks.zero; em = stops kind marks.em; ts = stops kind marks.ts; pending = stops kind marks.pending }

-- EMMS meets every instruction but prefetches and SFENCE, which meet none
abbrev pub kinds_meet : Kind → Kind → Bool
kinds_meet Ordinary Ordinary = false
kinds_meet Ordinary Emms = true
kinds_meet Ordinary Silent = false
kinds_meet Ordinary Loop = false
kinds_meet Emms Ordinary = true
kinds_meet Emms Emms = true
kinds_meet Emms Silent = false
kinds_meet Emms Loop = true
kinds_meet Silent kind = false
kinds_meet Loop Ordinary = false
kinds_meet Loop Emms = true
kinds_meet Loop Silent = false
kinds_meet Loop Loop = false

abbrev pub KindsMeet : Kind → Kind → Type 0
KindsMeet a b = kinds_meet a b ≡ true
