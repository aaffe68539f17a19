-- By the count of the words: with the tag they are three or four, and in both cases the first two decide before a third.
use mathlib.Core.Path.{sym, ap, ◌∙◌}
use mathlib.Core.Bool.{◌&&◌}
use mathlib.Core.List.{[]}
use lib.ListN.{get_or}
use borrow.Author.Tests.{not-true, not-false}
use Rattle.stanza.specs.Arguments.{words}
use Rattle.profile.specs.Profile.{is_some}
use Rattle.profile.proofs.Laws.Profile.{two, three, other}
use Rattle.profile.proofs.are_arguments.Goals as goal

pub returns-then-n-eq3 : goal.returns-then-n-eq3
returns-then-n-eq3 c = c.are_two.ensures ∙ sym (two (words c.args.line.now) (sym c.count-n.ensures ∙ c.if-n-eq3.true))

pub returns-then-n-ne4 : goal.returns-then-n-ne4
returns-then-n-ne4 c = sym (other (words c.args.line.now) (λ e. c.if-n-eq3.false (c.count-n.ensures ∙ e)) (λ e. c.if-n-ne4.true (c.count-n.ensures ∙ e)))

pub returns-then-not-are_two : goal.returns-then-not-are_two
returns-then-not-are_two c = let ws = words c.args.line.now in
    sym (three ws (sym c.count-n.ensures ∙ c.if-n-ne4.false) ∙ ap (λ b. b && is_some (get_or ws 3 [])) (sym c.are_two-2.ensures ∙ not-true c.are_two-2.result c.if-not-are_two.true-raw))

pub returns : goal.returns
returns c = let ws = words c.args.line.now in
    c.is_some.ensures ∙ ap is_some c.argument-credential.ensures ∙ sym (three ws (sym c.count-n.ensures ∙ c.if-n-ne4.false) ∙ ap (λ b. b && is_some (get_or ws 3 [])) (sym c.are_two-2.ensures ∙ not-false c.are_two-2.result c.if-not-are_two.false-raw))
