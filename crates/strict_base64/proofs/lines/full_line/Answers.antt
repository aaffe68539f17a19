-- By length, characters and LF in the definition's order; a line that starts beyond the text is too short.
use Rattle.std.proofs.Common.{◌≡◌, ◌+◌, ◌-◌, arith}
use mathlib.Core.Path.{sym, ◌∙◌}
use lib.ListN.{length, drop, length-drop}
use lib.Seq.{get_or-drop}
use borrow.Author.Tests.{le-ltb, lt-ltb}
use Rattle.strict_base64.specs.Alphabet.{is_character}
use Rattle.strict_base64.specs.Lines.{is_full}
use Rattle.strict_base64.proofs.lines.full_line.Goals as goal

pub returns-then-n-at : goal.returns-then-n-at
unfolding is_full
returns-then-n-at c = rw (le-ltb 64 (length (drop c.args.at c.args.text.now)) (simp length-drop (omega arith)))

pub returns-then-n-at-lt-LINE_LENGTH : goal.returns-then-n-at-lt-LINE_LENGTH
unfolding is_full
returns-then-n-at-lt-LINE_LENGTH c = rw (le-ltb 64 (length (drop c.args.at c.args.text.now)) (simp length-drop (omega arith)))

pub returns-then-not-are_all : goal.returns-then-not-are_all
unfolding is_full
returns-then-not-are_all c =
    let n : c.args.at + 64 - c.args.at ≡ 64 = omega arith in
    rw (lt-ltb 64 (length (drop c.args.at c.args.text.now)) (simp length-drop (omega arith)), rw n at (sym (c.are_all.ensures is_character (λ b r _ e. e))) ∙ c.if-not-are_all.true)

pub returns : goal.returns
unfolding is_full
returns c =
    let n : c.args.at + 64 - c.args.at ≡ 64 = omega arith in
    rw (lt-ltb 64 (length (drop c.args.at c.args.text.now)) (simp length-drop (omega arith)), rw n at (sym (c.are_all.ensures is_character (λ b r _ e. e))) ∙ c.if-not-are_all.false, get_or-drop)
