-- By what the text reads as: 1 to 3, or a stanza.
use mathlib.Core.Path.{sym, ap, ◌∙◌}
use Rattle.refusal.specs.Number.{number_of}
use Rattle.stanza.specs.Reading.{read_said}
use Rattle.session.specs.Opening.{name_of}
use Rattle.session.specs.Tables.{tables_in}
use Rattle.session.specs.Session.{session_of, carried_by}
use Rattle.conversation.specs.Responding.{responded_text}
use Rattle.conversation.proofs.Laws.Responding.{response_refused}
use Rattle.plugin_receiving.proofs.responding.receive_awaited.Goals as goal

pub receive_stanza-requires : goal.receive_stanza-requires
receive_stanza-requires c = sym c.read-first.ensures ∙ ap read_said c.in-Ok.is

pub returns-in-Err : goal.returns-in-Err
returns-in-Err c = record {
  outcome = λ xs hs.
      let a = c.args in
      rw (c.moved.ensures, c.phase_refused.ensures, sym c.read-first.ensures, c.in-Err.is) (response_refused a.session.machine (name_of a.session.name) a.session.screen a.session.phase (tables_in a.session.tables xs hs) a.word (number_of c.in-Err.r) a.out.now);
  carried = ap carried_by c.moved.ensures;
}

pub returns-in-Ok : goal.returns-in-Ok
returns-in-Ok c = record {
  outcome = λ xs hs.
      let a = c.args in
      c.receive_stanza.ensures.outcome xs hs
      ∙ ap (λ r. responded_text r a.word (session_of a.session xs hs) a.text.now a.out.now) (sym (ap read_said c.in-Ok.is) ∙ c.read-first.ensures);
  carried = c.receive_stanza.ensures.carried;
}
