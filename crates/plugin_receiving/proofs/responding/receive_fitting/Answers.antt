-- By whether the response fits, then by what decoding its body came to.
use Rattle.session.specs.Session.{carried_by}
use mathlib.Core.Path.{◌≡◌, refl, sym, ap, ◌∙◌}
use mathlib.Core.Bool.{true, false, ◌&&◌, ◌||◌}
use lib.Dec.{eqb}
use borrow.Author.Tests.{not-true, not-false}
use Rattle.refusal.specs.Number.{number_of}
use Rattle.refusal.specs.Output.{said}
use Rattle.stanza.specs.Parts.{body_in}
use Rattle.stanza.proofs.Laws.RoundTrip.{written_read}
use Rattle.responses.specs.Responses.{fitting, may_have_body, fits_whole}
use Rattle.session.specs.Opening.{name_of}
use Rattle.session.specs.Tables.{tables_in}
use Rattle.conversation.proofs.Laws.Responding.{responded_unfit, responded_whole, responded_short}
use Rattle.plugin_receiving.proofs.responding.receive_fitting.Goals as goal

pub returns-then-not-fits_whole : goal.returns-then-not-fits_whole
returns-then-not-fits_whole c = record {
  outcome = λ xs hs.
      let a = c.args in
      let y = body_in a.text.now a.s in
      let e : fits_whole a.word a.found y ≡ false = ap (λ n. fitting a.word a.found && (eqb n 0 || may_have_body a.word a.found)) (written_read a.text.now a.s.line a.s.body a.s.taken c.requires).body ∙ sym c.fits_whole.ensures ∙ not-true c.fits_whole.result c.if-not-fits_whole.true-raw in
      c.unfit.ensures.outcome xs hs a.out.now ∙ responded_unfit a.session.machine (name_of a.session.name) a.session.screen a.session.phase (tables_in a.session.tables xs hs) a.word a.found y a.s.taken a.out.now e;
  carried = c.unfit.ensures.carried;
}

pub write_body-written-requires : goal.write_body-written-requires
write_body-written-requires c = c.requires

pub returns-in-Ok : goal.returns-in-Ok
returns-in-Ok c = record {
  outcome = λ xs hs.
      let a = c.args in
      let y = body_in a.text.now a.s in
      let e : fits_whole a.word a.found y ≡ true = ap (λ n. fitting a.word a.found && (eqb n 0 || may_have_body a.word a.found)) (written_read a.text.now a.s.line a.s.body a.s.taken c.requires).body ∙ sym c.fits_whole.ensures ∙ not-false c.fits_whole.result c.if-not-fits_whole.false-raw in
      rw c.moved.ensures (responded_whole a.session.machine (name_of a.session.name) a.session.screen a.session.phase (tables_in a.session.tables xs hs) a.word a.found y a.s.taken a.out.now c.in-Ok.n _ e (sym (ap said c.in-Ok.is) ∙ c.write_body-written.ensures.answer) c.write_body-written.ensures.buffer);
  carried = ap carried_by c.moved.ensures;
}

pub returns-in-Err : goal.returns-in-Err
returns-in-Err c = record {
  outcome = λ xs hs.
      let a = c.args in
      let y = body_in a.text.now a.s in
      let e : fits_whole a.word a.found y ≡ true = ap (λ n. fitting a.word a.found && (eqb n 0 || may_have_body a.word a.found)) (written_read a.text.now a.s.line a.s.body a.s.taken c.requires).body ∙ sym c.fits_whole.ensures ∙ not-false c.fits_whole.result c.if-not-fits_whole.false-raw in
      responded_short a.session.machine (name_of a.session.name) a.session.screen a.session.phase (tables_in a.session.tables xs hs) a.word a.found y a.s.taken a.out.now (number_of c.in-Err.r) _ e (sym (ap said c.in-Err.is) ∙ c.write_body-written.ensures.answer) c.write_body-written.ensures.buffer;
  carried = refl;
}
