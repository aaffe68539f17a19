-- Each entry that does not show the text leaves what those behind it show; the first that does is the answer.
use Rattle.std.proofs.Common.{◌∙◌, ap, sym, option_copied}
use Rattle.std.proofs.lemmas.Iterator.{YieldsList-from_zip}
use Rattle.std.proofs.lemmas.Iterator.Adapters.{YieldsList-from_rev_slice}
use Rattle.std.proofs.lemmas.Iterator.Consumers.{YieldsList-turn, YieldsList-end}
use Rattle.std.proofs.lemmas.List.Elements.{All-push}
use Rattle.tables.specs.Repeats.{any_shows}
use Rattle.tables.proofs.Laws.Repeats.{are_equal, shows_other, shows_none, shows_part, part_long, one_differs, none_differs, missed, met, none_left}
use Rattle.tables.proofs.tables.Table.is_repeated.Goals as goal

pub entries-preserved-then-e-text : goal.entries-preserved-then-e-text
entries-preserved-then-e-text c =
    let a = c.args in
    c.entries.invariant ∙ missed c.entries-slot-items.result.now a.buffer.now a.text.now c.entries.slot-index c.entries-test.true c.from-e.result c.from-e.ensures
    (shows_other c.from-e.result a.buffer.now a.text.now c.if-e-text.true)

pub entries-preserved-in_default : goal.entries-preserved-in_default
entries-preserved-in_default c =
    let a = c.args in
    c.entries.invariant ∙ missed c.entries-slot-items.result.now a.buffer.now a.text.now c.entries.slot-index c.entries-test.true c.from-e.result c.from-e.ensures
    (shows_none c.from-e.result a.buffer.now a.text.now (sym (ap option_copied c.in_default.is) ∙ c.part.ensures))

pub loop-a-preserved : goal.loop-a-preserved
loop-a-preserved c = All-push are_equal c.loop-a.yielded (c.in-Some-2.a, c.in-Some-2.b) c.loop-a.invariant c.if-a-b.false

pub entries-preserved : goal.entries-preserved
entries-preserved c =
    let a = c.args in
    let shown = c.in-Some.shown.now in
    let turn = YieldsList-turn (YieldsList-from_zip (YieldsList-from_rev_slice shown cc) (YieldsList-from_rev_slice a.text.now cc))
    c.loop-a.yielded _ c.loop-a.yielded_by _ c.next.new.self (c.in-Some-2.a, c.in-Some-2.b) c.in-Some-2.is c.next.ensures.steps in
    c.entries.invariant ∙ missed c.entries-slot-items.result.now a.buffer.now a.text.now c.entries.slot-index c.entries-test.true c.from-e.result c.from-e.ensures
    (shows_part c.from-e.result a.buffer.now a.text.now shown (sym (ap option_copied c.in-Some.is) ∙ c.part.ensures)
    ∙ one_differs shown a.text.now _ _ turn c.if-a-b.true)

pub returns-in-None : goal.returns-in-None
returns-in-None c =
    let a = c.args in
    let shown = c.in-Some.shown.now in
    let part = sym (ap option_copied c.in-Some.is) ∙ c.part.ensures in
    let all = YieldsList-end (YieldsList-from_zip (YieldsList-from_rev_slice shown cc) (YieldsList-from_rev_slice a.text.now cc))
    c.loop-a.yielded _ c.loop-a.yielded_by _ c.next.new.self c.in-None.is c.next.ensures.steps in
    sym (c.entries.invariant ∙ met c.entries-slot-items.result.now a.buffer.now a.text.now c.entries.slot-index c.entries-test.true c.from-e.result c.from-e.ensures
    (shows_part c.from-e.result a.buffer.now a.text.now shown part
    ∙ none_differs shown a.text.now c.loop-a.yielded all.0 (part_long c.from-e.result.start c.from-e.result.length a.buffer.now shown part ∙ c.if-e-text.false) c.loop-a.invariant))
    ∙ ap (λ es. any_shows es a.buffer.now a.text.now) c.entries-slot-items.ensures

pub returns-after-entries : goal.returns-after-entries
returns-after-entries c =
    let a = c.args in
    sym (c.entries.invariant ∙ none_left c.entries-slot-items.result.now a.buffer.now a.text.now c.entries.slot-index c.entries-test.false)
    ∙ ap (λ es. any_shows es a.buffer.now a.text.now) c.entries-slot-items.ensures
