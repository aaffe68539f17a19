-- An empty body is no bytes, which fit any buffer; any other is decoded.
use mathlib.Core.Path.{◌≡◌, refl, sym, ap, ◌∙◌}
use mathlib.Core.List.{[]}
use lib.ListN.{length}
use native.Mathlib.Omega.{arith}
use borrow.Author.Tests.{le-ltb}
use Rattle.refusal.specs.Output.{bytes, answered, filled}
use Rattle.stanza.specs.Parts.{body_in}
use Rattle.stanza.proofs.Laws.RoundTrip.{written_read}
use Rattle.conversation.proofs.Laws.RowsTwo.{no_bytes}
use Rattle.intake.proofs.Laws.Keeping.{filled_empty}
use Rattle.plugin_receiving.proofs.responding.write_body.Goals as goal

pub returns-then-s-eq0 : goal.returns-then-s-eq0
returns-then-s-eq0 c = let a = c.args in
    let o = a.out.now in
    let y = body_in a.text.now a.s in
    let e : y ≡ [] = no_bytes y ((written_read a.text.now a.s.line a.s.body a.s.taken c.requires).body ∙ c.if-s-eq0.true) in
    let none : bytes 0 ≡ answered [] o = rw (le-ltb (length o) 0 (omega arith)) refl in
    record {
      answer = none ∙ ap (λ b. answered b o) (sym e);
      buffer = filled_empty o ∙ ap (λ b. filled b o) (sym e);
    }
