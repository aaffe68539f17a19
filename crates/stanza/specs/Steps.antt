-- What the private functions of reading say of their parts of a text. Nobody has to believe this: reading's own contract does not name it.
use Rattle.std.specs.Prelude.{ℕ, ◌+◌, ◌<◌, ◌≡◌, List, drop, Result, Ok, Err}
use Rattle.stanza.specs.Automaton.{Scan, bad, short, whole, scan, line}
use Rattle.stanza.specs.declared.reading.Fault.{Fault}
use Rattle.stanza.specs.declared.reading.Fault.TheVariants as the

-- what a part says that has no end
abbrev pub fault_said : Fault → Scan
fault_said the.Bad = bad
fault_said the.Short = short

-- what a text says whose first line was read: it goes on behind the line's LF
abbrev pub goes_on : Result ℕ Fault → List ℕ → Scan
goes_on (Err f) t = fault_said f
goes_on (Ok e) t = scan (line 0 0) (e + 1) (drop (e + 1) t)

-- where the first line was said to end, there stands the first LF, which is the n-th of l bytes
abbrev pub EndsAt : Result ℕ Fault → ℕ → ℕ → Type 0
EndsAt (Err f) n l = Unit {0}
EndsAt (Ok e) n l = (n ≡ e) × (e < l)

-- what the body says
abbrev pub body_said : Result ℕ Fault → Scan
body_said (Err f) = fault_said f
body_said (Ok n) = whole n
