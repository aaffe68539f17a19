-- By where the automaton ends behind the first line; the body's size follows from how many bytes its lines take.
use Prim.Native.Nat.{◌+◌}
use mathlib.Core.Path.{sym, ap, ◌∙◌}
use lib.Dec.{ltb}
use lib.ListN.{length, drop, length-drop}
use native.Mathlib.Omega.{arith}
use Rattle.stanza.specs.Automaton.{line}
use Rattle.stanza.specs.Reading.{found}
use Rattle.stanza.specs.Steps.{body_said}
use Rattle.stanza.proofs.Laws.Automaton.{scan_whole}
use Rattle.stanza.proofs.Laws.Reading.{found_whole, pick_refused}
use Rattle.stanza.proofs.reading.read_body.Goals as goal

pub overflow_sub-taken : goal.overflow_sub-taken
overflow_sub-taken c = omega (arith, (scan_whole (drop (c.args.e + 1) c.args.w.now) (line 0 0) (c.args.e + 1) c.in-Ok.taken (c.body_end-b.ensures ∙ ap body_said c.in-Ok.is)).0)

pub overflow_sub-taken-in-Ok : goal.overflow_sub-taken-in-Ok
overflow_sub-taken-in-Ok c = omega (arith, (scan_whole (drop (c.args.e + 1) c.args.w.now) (line 0 0) (c.args.e + 1) c.in-Ok.taken (c.body_end-b.ensures ∙ ap body_said c.in-Ok.is)).0)

pub returns-in-Err : goal.returns-in-Err
returns-in-Err c = rw (c.body_end-b.ensures, c.in-Err.is) (c.refusal_of.ensures c.args.w.now)

pub returns-in-Ok : goal.returns-in-Ok
returns-in-Ok c = let b = (scan_whole (drop (c.args.e + 1) c.args.w.now) (line 0 0) (c.args.e + 1) c.in-Ok.taken (c.body_end-b.ensures ∙ ap body_said c.in-Ok.is)) in
    rw ((c.body_end-b.ensures ∙ ap body_said c.in-Ok.is), c.body_length-size.ensures) (sym (found_whole (length c.args.w.now) c.args.w.now c.args.e c.in-Ok.taken c.requires.w_value (omega arith) (omega (arith, length-drop (c.args.e + 1) c.args.w.now, c.requires.e_in_bounds, b.1))))
