-- By the answer: 15 leaves everything as it was, any other drops what was kept.
use mathlib.Core.Path.{sym, ap, ◌∙◌}
use borrow.Author.Tests.{eq-eqb, ne_eqb}
use Rattle.refusal.specs.Number.{number_of}
use Rattle.chunks.specs.Taking.{plugin}
use Rattle.plugin_receiving.proofs.responding.settle_response.Goals as goal

pub returns-then-number-eq15 : goal.returns-then-number-eq15
returns-then-number-eq15 c = record {
  outcome = λ xs hs input b out. rw (c.in-Err.is, eq-eqb (number_of c.in-Err.r) 15 (sym c.number.ensures ∙ c.if-number-eq15.true)) (c.leave.ensures.outcome plugin xs hs input b out);
  name = c.leave.ensures.name;
}

pub returns-in-Ok : goal.returns-in-Ok
returns-in-Ok c = record {
  outcome = λ xs hs input b out. rw (c.keeping-emptied.ensures, c.in-Ok.is, c.none_behind.ensures);
  name = ap (λ s. s.name) c.keeping-emptied.ensures ∙ c.requires;
}

pub returns-else-number-eq15 : goal.returns-else-number-eq15
returns-else-number-eq15 c = record {
  outcome = λ xs hs input b out. rw (c.keeping-emptied.ensures, c.in-Err.is, ne_eqb (number_of c.in-Err.r) 15 (λ h. c.if-number-eq15.false (c.number.ensures ∙ h)));
  name = ap (λ s. s.name) c.keeping-emptied.ensures ∙ c.requires;
}
