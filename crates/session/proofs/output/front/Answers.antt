-- A front that is shorter than the bytes is cut; else it is all of them.
use mathlib.Core.Path.{sym}
use lib.Seq.{length-take-le, take_all}
use native.Mathlib.Omega.{arith}
use Rattle.session.proofs.output.front.Goals as goal

pub slice_bounds-result-end : goal.slice_bounds-result-end
slice_bounds-result-end c = sym (length-take-le c.args.length c.args.bytes.now (omega arith))

pub returns : goal.returns
returns c = sym (take_all c.args.length c.args.bytes.now (omega arith))
