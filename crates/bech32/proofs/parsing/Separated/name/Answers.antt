-- The tests of `has_head`; where they pass, the human part decides.
use Prim.Native.Nat.{◌-◌}
use mathlib.Core.Path.{◌≡◌, sym, ap, ◌∙◌}
use mathlib.Core.Bool.{false, ◌&&◌}
use mathlib.Core.List.{[], map}
use lib.ListN.{length}
use native.Mathlib.Omega.{arith}
use borrow.Author.Tests.{lt-leb, le-leb}
use Rattle.refusal.specs.Pick.{pick}
use Rattle.refusal.proofs.Laws.Booleans.{and_false_right}
use Rattle.symbols.specs.Charset.{lower}
use Rattle.bech32.specs.Text.{separator, is_cased, name_in, human_in, is_human}
use Rattle.bech32.specs.Calls.{form_of}
use Rattle.bech32.specs.Steps.{name_or, has_head, name_at}
use Rattle.bech32.proofs.Laws.Parsing.{human_decides}
use Rattle.bech32.proofs.parsing.Separated.name.Goals as goal
use Rattle.bech32.proofs.parsing.Separated.name.Goals.{then-self-gt-LONGEST-via-then-self-gt-LONGEST, then-self-gt-LONGEST-via-else-self-gt-LONGEST+then-self-lt-TAIL, then-self-gt-LONGEST-via-else-self-gt-LONGEST+else-self-lt-TAIL+then-not-is_cased}

pub returns-then-self-gt-LONGEST : goal.returns-then-self-gt-LONGEST
unfolding has_head
returns-then-self-gt-LONGEST c = let t = c.args.self.now.text.now in
    let k = form_of c.args.kind in
    let s : c.args.self.now.at ≡ separator t = c.args.self.now.at_separator in
    let f : has_head k t ≡ false = elim c.then-self-gt-LONGEST.branch [
      | then-self-gt-LONGEST-via-then-self-gt-LONGEST w ↦ rw (lt-leb (length t) 1024 w.if-self-gt-LONGEST.true)
      | then-self-gt-LONGEST-via-else-self-gt-LONGEST+then-self-lt-TAIL w ↦
          rw (le-leb (length t) 1024 w.if-self-gt-LONGEST.false, lt-leb 7 (length t - separator t) (omega (arith, s, w.if-self-lt-TAIL.true)))
          (ap (λ b. b && is_human k (human_in (map lower t))) (and_false_right (is_cased k t)))
      | then-self-gt-LONGEST-via-else-self-gt-LONGEST+else-self-lt-TAIL+then-not-is_cased w ↦
          rw (le-leb (length t) 1024 w.if-self-gt-LONGEST.false, sym w.is_cased.ensures ∙ w.if-not-is_cased.true)
    ] in
    ap (λ b. pick b (name_in k (human_in (map lower t))) []) f

pub returns : goal.returns
returns c = let t = c.args.self.now.text.now in
    let k = form_of c.args.kind in
    let s : c.args.self.now.at ≡ separator t = c.args.self.now.at_separator in
    let z : name_at k t ≡ name_or k (map lower c.head.result.now) =
    human_decides k t c.if-self-gt-LONGEST.false (omega (arith, s, c.if-self-lt-TAIL.false)) (sym c.is_cased.ensures ∙ c.if-not-is_cased.false) ∙ ap (λ l. name_or k (map lower l)) (sym c.head.ensures) in
    rw z c.name_in.ensures
