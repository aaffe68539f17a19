-- Invariant: the automaton comes to the same from `from` and from i, and so does the search for the line's end.
use Prim.Native.Nat.{◌<◌}
use mathlib.Core.Path.{◌∙◌}
use lib.ListN.{length}
use native.Mathlib.Omega.{arith}
use Rattle.refusal.specs.Run.{is_graphic}
use Rattle.refusal.proofs.Laws.Run.{run_in, run_out, end_le, run_first, run_stop}
use Rattle.stanza.specs.Automaton.{gap, word}
use Rattle.stanza.specs.Reading.{is_not_lf}
use Rattle.stanza.proofs.Laws.Automaton.{scan_end, gap_bad, gap_word, word_run, word_lf, word_space, word_bad, graphic_line_end}
use Rattle.stanza.proofs.reading.words.Goals as goal

pub returns-then-e-i : goal.returns-then-e-i
returns-then-e-i c = let t = c.args.text.now in
    let i = c.loop-i.i in
    record {
      text_value = c.loop-i.invariant.2 ∙ gap_bad t i c.loop-i-test.true (rw c.if-e-i.true at (run_stop is_graphic t i c.graphic_end-e.result c.graphic_end-e.ensures (omega arith)));
      ends_at = tt;
    }

pub returns-then-e-text : goal.returns-then-e-text
returns-then-e-text c = record {
  text_value = c.loop-i.invariant.2 ∙ gap_word c.args.text.now c.loop-i.i c.loop-i-test.true (run_first is_graphic c.args.text.now c.loop-i.i c.graphic_end-e.result c.graphic_end-e.ensures c.if-e-i.false) ∙ word_run c.args.text.now c.loop-i.i c.graphic_end-e.result c.graphic_end-e.ensures ∙ scan_end word c.args.text.now c.graphic_end-e.result (omega arith);
  ends_at = tt;
}

pub bounds-text-e : goal.bounds-text-e
bounds-text-e c = omega (arith, c.graphic_end-e.ensures, end_le is_graphic c.args.text.now c.loop-i.i (omega arith), c.if-e-text.false)

pub returns-then-b-eq10 : goal.returns-then-b-eq10
returns-then-b-eq10 c = let l : c.graphic_end-e.result < length c.args.text.now = omega (arith, c.graphic_end-e.ensures, end_le is_graphic c.args.text.now c.loop-i.i (omega arith), c.if-e-text.false) in
    record {
      text_value = c.loop-i.invariant.2 ∙ gap_word c.args.text.now c.loop-i.i c.loop-i-test.true (run_first is_graphic c.args.text.now c.loop-i.i c.graphic_end-e.result c.graphic_end-e.ensures c.if-e-i.false) ∙ word_run c.args.text.now c.loop-i.i c.graphic_end-e.result c.graphic_end-e.ensures ∙ word_lf c.args.text.now c.graphic_end-e.result l c.if-b-eq10.true;
      ends_at = (c.loop-i.invariant.3 ∙ graphic_line_end c.args.text.now c.loop-i.i c.graphic_end-e.result (omega arith) c.graphic_end-e.ensures ∙ run_out is_not_lf c.args.text.now c.graphic_end-e.result l (rw c.if-b-eq10.true), l);
    }

pub returns-then-b-ne32 : goal.returns-then-b-ne32
returns-then-b-ne32 c = let l : c.graphic_end-e.result < length c.args.text.now = omega (arith, c.graphic_end-e.ensures, end_le is_graphic c.args.text.now c.loop-i.i (omega arith), c.if-e-text.false) in
    record {
      text_value = c.loop-i.invariant.2 ∙ gap_word c.args.text.now c.loop-i.i c.loop-i-test.true (run_first is_graphic c.args.text.now c.loop-i.i c.graphic_end-e.result c.graphic_end-e.ensures c.if-e-i.false) ∙ word_run c.args.text.now c.loop-i.i c.graphic_end-e.result c.graphic_end-e.ensures ∙ word_bad c.args.text.now c.graphic_end-e.result l (run_stop is_graphic c.args.text.now c.loop-i.i c.graphic_end-e.result c.graphic_end-e.ensures l) c.if-b-ne32.true c.if-b-eq10.false;
      ends_at = tt;
    }

pub loop-i-preserved : goal.loop-i-preserved
loop-i-preserved c = let l : c.graphic_end-e.result < length c.args.text.now = omega (arith, c.graphic_end-e.ensures, end_le is_graphic c.args.text.now c.loop-i.i (omega arith), c.if-e-text.false) in (
  omega (arith, c.graphic_end-e.ensures),
  omega arith,
  c.loop-i.invariant.2 ∙ gap_word c.args.text.now c.loop-i.i c.loop-i-test.true (run_first is_graphic c.args.text.now c.loop-i.i c.graphic_end-e.result c.graphic_end-e.ensures c.if-e-i.false) ∙ word_run c.args.text.now c.loop-i.i c.graphic_end-e.result c.graphic_end-e.ensures ∙ word_space c.args.text.now c.graphic_end-e.result l c.if-b-ne32.false,
  c.loop-i.invariant.3 ∙ graphic_line_end c.args.text.now c.loop-i.i c.graphic_end-e.result (omega arith) c.graphic_end-e.ensures ∙ run_in is_not_lf c.args.text.now c.graphic_end-e.result l (rw c.if-b-ne32.false),
)

pub returns : goal.returns
returns c = record {
  text_value = c.loop-i.invariant.2 ∙ scan_end gap c.args.text.now c.loop-i.i c.loop-i-test.false;
  ends_at = tt;
}
