-- By the run of characters and what stands behind it; as the line is no full one, an LF there ends fewer than 64.
use Prim.Native.Nat.{◌+◌, ◌<◌}
use mathlib.Core.Path.{sym, ◌∙◌}
use lib.ListN.{length}
use native.Mathlib.Omega.{arith}
use Rattle.refusal.proofs.Laws.Run.{end_le}
use Rattle.strict_base64.specs.Alphabet.{is_character}
use Rattle.strict_base64.specs.Code.{ends_well}
use Rattle.stanza.proofs.Laws.Automaton.{line_long, line_short, line_bad, line_lf, line_last, line_not_full}
use Rattle.stanza.proofs.reading.last_line.Goals as goal

pub returns-then-k-gt-LINE_CHARACTERS : goal.returns-then-k-gt-LINE_CHARACTERS
returns-then-k-gt-LINE_CHARACTERS c = line_long c.args.text.now c.args.from c.characters-e.result c.characters-e.ensures c.requires.from_in_bounds (omega arith)

pub returns-then-e-text : goal.returns-then-e-text
returns-then-e-text c = line_short c.args.text.now c.args.from c.characters-e.result c.characters-e.ensures c.requires.from_in_bounds (omega arith) c.if-e-text.true

pub bounds-text-e : goal.bounds-text-e
bounds-text-e c = omega (arith, c.characters-e.ensures, end_le is_character c.args.text.now c.args.from c.requires.from_in_bounds, c.if-e-text.false)

pub returns-then-text-e-ne10 : goal.returns-then-text-e-ne10
returns-then-text-e-ne10 c = line_bad c.args.text.now c.args.from c.characters-e.result c.characters-e.ensures c.requires.from_in_bounds (omega arith) (omega (arith, c.characters-e.ensures, end_le is_character c.args.text.now c.args.from c.requires.from_in_bounds, c.if-e-text.false)) c.if-text-e-ne10.true

pub returns-then-k-eq0 : goal.returns-then-k-eq0
unfolding ends_well
returns-then-k-eq0 c = let l : c.characters-e.result < length c.args.text.now = omega (arith, c.characters-e.ensures, end_le is_character c.args.text.now c.args.from c.requires.from_in_bounds, c.if-e-text.false) in
    let n = line_not_full c.args.text.now c.args.from c.characters-e.result c.characters-e.ensures c.requires.from_in_bounds c.requires.text_value l c.if-text-e-ne10.false in
    let m : c.characters-e.result < c.args.from + 64 = omega (arith, n) in
    line_lf c.args.text.now c.args.from c.characters-e.result c.characters-e.ensures c.requires.from_in_bounds m l c.if-text-e-ne10.false ∙ rw c.if-k-eq0.true

pub returns-then-ends_well : goal.returns-then-ends_well
returns-then-ends_well c = let l : c.characters-e.result < length c.args.text.now = omega (arith, c.characters-e.ensures, end_le is_character c.args.text.now c.args.from c.requires.from_in_bounds, c.if-e-text.false) in
    let n = line_not_full c.args.text.now c.args.from c.characters-e.result c.characters-e.ensures c.requires.from_in_bounds c.requires.text_value l c.if-text-e-ne10.false in
    let m : c.characters-e.result < c.args.from + 64 = omega (arith, n) in
    line_lf c.args.text.now c.args.from c.characters-e.result c.characters-e.ensures c.requires.from_in_bounds m l c.if-text-e-ne10.false ∙ rw (line_last c.args.text.now c.args.from c.characters-e.result c.characters-e.ensures c.requires.from_in_bounds (omega (arith, c.if-k-eq0.false, c.characters-e.ensures)), sym c.ends_well.ensures ∙ c.if-ends_well.true)

pub returns : goal.returns
returns c = let l : c.characters-e.result < length c.args.text.now = omega (arith, c.characters-e.ensures, end_le is_character c.args.text.now c.args.from c.requires.from_in_bounds, c.if-e-text.false) in
    let n = line_not_full c.args.text.now c.args.from c.characters-e.result c.characters-e.ensures c.requires.from_in_bounds c.requires.text_value l c.if-text-e-ne10.false in
    let m : c.characters-e.result < c.args.from + 64 = omega (arith, n) in
    line_lf c.args.text.now c.args.from c.characters-e.result c.characters-e.ensures c.requires.from_in_bounds m l c.if-text-e-ne10.false ∙ rw (line_last c.args.text.now c.args.from c.characters-e.result c.characters-e.ensures c.requires.from_in_bounds (omega (arith, c.if-k-eq0.false, c.characters-e.ensures)), sym c.ends_well.ensures ∙ c.if-ends_well.false)
