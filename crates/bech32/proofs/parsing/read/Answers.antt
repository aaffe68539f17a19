-- Without a name the text has not the form; with one the tail decides; the payload is what the characters between separator and checksum decode to.
use Prim.Native.Nat.{◌+◌, ◌-◌}
use mathlib.Core.Path.{◌≡◌, refl, sym, ap, ◌∙◌}
use mathlib.Core.List.{◌++◌, map}
use lib.ListN.{length, drop, length-map}
use native.Mathlib.Omega.{arith}
use borrow.Author.Tests.{le-ltb}
use Rattle.refusal.specs.Number.{number_of}
use Rattle.refusal.specs.Output.{refused, filled, bytes as accepted}
use Rattle.refusal.specs.Verdict.{verdict_said}
use Rattle.refusal.proofs.Laws.Number.{number_not_zero}
use Rattle.symbols.specs.Charset.{lower}
use Rattle.symbols.specs.Checksum.{are_symbols}
use Rattle.symbols.specs.Regroup.{bytes}
use Rattle.bech32.specs.Text.{separator, payload_in, parsed, parse}
use Rattle.bech32.specs.Calls.{form_of, padded, text_number}
use Rattle.bech32.specs.Steps.{name_at, tail_number}
use Rattle.symbols.specs.Calls.{value_at, symbol_at, bytes_size}
use Rattle.symbols.specs.Steps.{symbol_in}
use Rattle.symbols.proofs.Laws.Charset.{symbols_by}
use Rattle.symbols.proofs.Laws.Groups.{bytes_length, symbols_same}
use Rattle.bech32.proofs.Laws.Text.{payload_symbols}
use Rattle.bech32.proofs.Laws.Parsing.{is_head, no_head, head_long, payload_lower, number_none, number_is, tail_whole, text_is, refuses, reads_short, reads}
use Rattle.bech32.proofs.parsing.read.Goals as goal

pub returns-in_default : goal.returns-in_default
returns-in_default c = let t = c.of-text.result.text.now in
    let k = form_of c.args.kind in
    let q = refuses k t c.args.out.now 16 (number_none k t (no_head k t (ap length c.in_default.ensures))) refl in
    rw (← c.of-text.ensures) (record {
      answer = ap (λ r. refused (number_of r)) c.refuse.ensures.refusal ∙ q.0;
      place = c.refuse.ensures.place ∙ q.1;
      name = sym q.2;
      buffer = q.3;
    })

pub judge_tail-requires : goal.judge_tail-requires
judge_tail-requires c = let t = c.of-text.result.text.now in
    let k = form_of c.args.kind in
    let e = is_head k t c.in-Some.ensures.1 in
    record { values = c.values-table.ensures; in_bounds = omega (arith, head_long k t e) }

pub payload-payload-requires : goal.payload-payload-requires
payload-payload-requires c = let t = c.of-text.result.text.now in
    let k = form_of c.args.kind in
    let e = is_head k t c.in-Some.ensures.1 in
    omega (arith, head_long k t e)

pub returns-then-out-n : goal.returns-then-out-n
returns-then-out-n c = let t = c.of-text.result.text.now in
    let k = form_of c.args.kind in
    let e = is_head k t c.in-Some.ensures.1 in
    let l = head_long k t e in
    let d = c.payload-payload.result.now in
    let y : payload_in (map lower t) ≡ map value_at d = payload_lower t ∙ ap (map value_at) (sym c.payload-payload.ensures) in
    let p = bytes (map value_at d) in
    let v : length p ≡ c.bytes_length-n.result = bytes_length (map value_at d) ∙ ap bytes_size (length-map d value_at) ∙ sym c.bytes_length-n.ensures in
    let z : tail_number (map lower t) ≡ 0 = sym c.in_default-judge_tail.ensures in
    let x : parse k t ≡ parsed (name_at k t) p = text_is k t e z ∙ ap (λ vs. parsed (name_at k t) (bytes vs)) y in
    let o = c.args.out.now in
    let q = reads_short k t o (name_at k t) p x (omega arith) in
    rw (← c.of-text.ensures) (record {
      answer = q.0;
      place = q.1;
      name = sym q.2;
      buffer = q.3;
    })

pub returns : goal.returns
returns c = let t = c.of-text.result.text.now in
    let k = form_of c.args.kind in
    let e = is_head k t c.in-Some.ensures.1 in
    let l = head_long k t e in
    let d = c.payload-payload.result.now in
    let y : payload_in (map lower t) ≡ map value_at d = payload_lower t ∙ ap (map value_at) (sym c.payload-payload.ensures) in
    let p = bytes (map value_at d) in
    let v : length p ≡ c.bytes_length-n.result = bytes_length (map value_at d) ∙ ap bytes_size (length-map d value_at) ∙ sym c.bytes_length-n.ensures in
    let z : tail_number (map lower t) ≡ 0 = sym c.in_default-judge_tail.ensures in
    let x : parse k t ≡ parsed (name_at k t) p = text_is k t e z ∙ ap (λ vs. parsed (name_at k t) (bytes vs)) y in
    let o = c.args.out.now in
    let f : filled (bytes (map (symbol_in c.values-table.result) d)) o ≡ p ++ drop (length p) o =
    ap (λ x. filled (bytes x) o) (ap (map (symbol_in c.values-table.result)) c.payload-payload.ensures ∙ symbols_by c.values-table.result c.values-table.ensures (length t - 6 - (separator t + 1)) (separator t + 1) t c.of-text.result.bytes ∙ ap (map symbol_at) (sym c.payload-payload.ensures) ∙ symbols_same value_at d (ap are_symbols (sym y) ∙ payload_symbols (map lower t) (tail_whole t l z))) ∙ rw (le-ltb (length o) (length p) (omega arith)) in
    let q = reads k t o (name_at k t) p x (omega arith) in
    rw (← c.of-text.ensures) (record {
      answer = ap accepted (sym v) ∙ q.0;
      place = q.1;
      name = (c.in-Some.ensures.0.0 ∙ ap padded q.2, c.in-Some.ensures.0.1 ∙ ap length q.2);
      buffer = c.decode.ensures ∙ f ∙ q.3;
    })

pub returns-in-Err : goal.returns-in-Err
returns-in-Err c = let t = c.of-text.result.text.now in
    let k = form_of c.args.kind in
    let e = is_head k t c.in-Some.ensures.1 in
    let r = c.in-Err.r in
    let n : text_number (parse k t) ≡ number_of r = number_is k t e ∙ sym c.judge_tail.ensures ∙ ap verdict_said c.in-Err.is in
    let q = refuses k t c.args.out.now (number_of r) n (number_not_zero r) in
    rw (← c.of-text.ensures) (record {
      answer = ap (λ r. refused (number_of r)) c.refuse-in-Err.ensures.refusal ∙ q.0;
      place = c.refuse-in-Err.ensures.place ∙ q.1;
      name = sym q.2;
      buffer = q.3;
    })
