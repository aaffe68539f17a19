-- By what the arguments read as: a response, or none.
use mathlib.Core.Path.{◌≡◌, sym, ap, ◌∙◌}
use Rattle.stanza.specs.Parts.{arguments_in, body_in}
use Rattle.responses.specs.Responses.{response_of, reading_said}
use Rattle.session.specs.Opening.{name_of}
use Rattle.session.specs.Tables.{tables_in}
use Rattle.session.specs.Session.{session_of}
use Rattle.conversation.specs.Responding.{responded_as}
use Rattle.conversation.proofs.Laws.Responding.{responded_nothing}
use Rattle.plugin_receiving.proofs.responding.receive_stanza.Goals as goal

pub returns-in-Some : goal.returns-in-Some
returns-in-Some c = record {
  outcome = λ xs hs.
      let a = c.args in
      let e : reading_said c.read_line-reading.result ≡ response_of (arguments_in a.text.now a.s) = c.read_line-reading.ensures ∙ ap response_of c.arguments_of.ensures in
      c.receive_fitting.ensures.outcome xs hs
      ∙ ap (λ r. responded_as a.word (session_of a.session xs hs) r (body_in a.text.now a.s) a.s.taken a.out.now) (sym (ap reading_said c.in-Some.is) ∙ e);
  carried = c.receive_fitting.ensures.carried;
}

pub returns-in-None : goal.returns-in-None
returns-in-None c = record {
  outcome = λ xs hs.
      let a = c.args in
      let e : reading_said c.read_line-reading.result ≡ response_of (arguments_in a.text.now a.s) = c.read_line-reading.ensures ∙ ap response_of c.arguments_of.ensures in
      c.unfit.ensures.outcome xs hs a.out.now
      ∙ responded_nothing a.session.machine (name_of a.session.name) a.session.screen a.session.phase (tables_in a.session.tables xs hs) a.word (body_in a.text.now a.s) a.s.taken a.out.now
      ∙ ap (λ r. responded_as a.word (session_of a.session xs hs) r (body_in a.text.now a.s) a.s.taken a.out.now) (sym (ap reading_said c.in-None.is) ∙ e);
  carried = c.unfit.ensures.carried;
}
