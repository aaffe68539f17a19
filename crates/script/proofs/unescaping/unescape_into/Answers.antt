-- `unescape_into` meets its contract. Invariant: the word stands for n bytes and what the rest stands for in this state. Where all of it fits, the n bytes are stored, and
-- behind them the buffer is as it was.
use Rattle.std.proofs.Common.{ℕ, ◌+◌, List, Some, sym, ap, ◌∙◌, subst, drop, arith}
use Rattle.script.specs.Escape.{Meaning, word, rest, unescaped, measured, state_said, step_said, size_said}
use Rattle.script.proofs.Laws.Escape.{plus, plus_one, rest_ends, rest_moves, rest_gives, rest_stops, state_plain, Stored, stored_space, stored_one, stored_bad, stored_whole}
use Rattle.script.proofs.unescaping.unescape_into.Goals as goal
use Rattle.script.proofs.unescaping.unescape_into.Goals.{in-Moves, in-Gives, then-n-out, else-n-out}

-- n bytes more
more : ℕ → Meaning (List ℕ) → Meaning ℕ
more n m = plus n (measured m)

pub returns-in_err-step : goal.returns-in_err-step
unfolding more
returns-in_err-step c =
    let t = c.args.word.now in
    let s = rest_stops t (state_said c.loop-b.state) c.loop-b.b-index c.loop-b-test.true c.in_err-step.ensures in
    record {
      size = ap size_said c.from_residual.ensures ∙ sym (c.loop-b.invariant.1 ∙ ap (more c.loop-b.n) s);
      buffer = λ f. absurd (stored_bad (unescaped t) c.loop-b.out c.args.out.now c.loop-b.n f (subst (Stored (unescaped t) c.loop-b.out c.args.out.now c.loop-b.n) s (c.loop-b.invariant.2 f)));
    }

pub loop-b-preserved : goal.loop-b-preserved
unfolding more
loop-b-preserved c =
    let t = c.args.word.now in
    let o = c.loop-b.out in
    let p = c.args.out.now in
    let n = c.loop-b.n in
    let state = state_said c.loop-b.state in
    let i = c.loop-b.b-index in
    elim c.match-step.branch [
      | in-Moves w ↦
          let s = rest_moves t state i (state_said w.in-Moves.next) c.loop-b-test.true (sym (ap (λ s. step_said (Some s)) w.in-Moves.is) ∙ c.in_ok-step.ensures) in (
            omega arith,
            rw (w.n-is, w.state-is) (c.loop-b.invariant.1 ∙ ap (more n) s),
            λ f. rw (w.n-is, w.state-is, w.out-is) (subst (Stored (unescaped t) o p n) s (c.loop-b.invariant.2 f)),
          )
      | in-Gives w ↦
          let b = w.in-Gives.byte in
          let m = rest 0 (drop (i + 1) t) in
          let s = rest_gives t state i b c.loop-b-test.true (sym (ap (λ s. step_said (Some s)) w.in-Gives.is) ∙ c.in_ok-step.ensures) in (
            omega arith,
            rw (w.n-is, w.state-is) (c.loop-b.invariant.1 ∙ ap (more n) s ∙ plus_one n b m),
            λ f.
                let r = subst (Stored (unescaped t) o p n) s (c.loop-b.invariant.2 f) in
                rw (w.n-is, w.state-is, w.out-is) (elim w.if-n-out.branch [
                  | then-n-out v ↦ rw v.out-is (stored_one (unescaped t) o p n f b m r)
                  | else-n-out v ↦ (let h = stored_space (unescaped t) o p n f b m r in absurd (omega arith))
                ]),
          )
    ]

pub returns-in-Plain : goal.returns-in-Plain
unfolding more
returns-in-Plain c =
    let t = c.args.word.now in
    let e = rest_ends t (state_said c.loop-b.state) c.loop-b.b-index c.loop-b-test.false ∙ rw c.in-Plain.is in
    record {
      size = sym (c.loop-b.invariant.1 ∙ ap (more c.loop-b.n) e ∙ ap word (omega arith));
      buffer = λ f. stored_whole (unescaped t) c.loop-b.out c.args.out.now c.loop-b.n f (subst (Stored (unescaped t) c.loop-b.out c.args.out.now c.loop-b.n) e (c.loop-b.invariant.2 f));
    }

pub returns-in_default : goal.returns-in_default
unfolding more
returns-in_default c =
    let t = c.args.word.now in
    let e = rest_ends t (state_said c.loop-b.state) c.loop-b.b-index c.loop-b-test.false ∙ rw (state_plain c.loop-b.state c.in_default.not-Plain) in
    record {
      size = sym (c.loop-b.invariant.1 ∙ ap (more c.loop-b.n) e);
      buffer = λ f. absurd (stored_bad (unescaped t) c.loop-b.out c.args.out.now c.loop-b.n f (subst (Stored (unescaped t) c.loop-b.out c.args.out.now c.loop-b.n) e (c.loop-b.invariant.2 f)));
    }
