-- Nothing is kept; the bytes that were kept and those of the chunk are dropped.
use Prim.Native.Nat.{◌+◌, min}
use mathlib.Core.Path.{◌≡◌, refl, sym, ap, ◌∙◌}
use mathlib.Core.List.{[], ◌++◌}
use lib.Dec.{eqb}
use lib.ListN.{length, take, length-append}
use Rattle.refusal.specs.Pick.{pick}
use Rattle.refusal.specs.Verdict.{verdict_said}
use Rattle.stanza.specs.Resuming.{place_said}
use Rattle.session.specs.Session.{session_of}
use Rattle.chunks.specs.Taking.{plugin, turn_at}
use Rattle.chunks.proofs.Laws.Texts.{front_dropped}
use Rattle.plugin_receiving.proofs.Laws.Commands.{says_emptied, says_same}
use Rattle.plugin_receiving.proofs.Laws.Drops.{dropped_is}
use Rattle.plugin_receiving.proofs.phases.drop_chunk.Goals as goal

pub returns : goal.returns
returns c = let a = c.args in
    let o = a.input.now in
    let x = a.chunk.now in
    let k = take (min a.session.kept 8191) o in
    let f = ap length (c.front-kept.ensures ∙ ap (λ n. take n o) c.kept_of.ensures) in
    let n : verdict_said c.dropped-verdict.result ≡ pick (eqb (length (k ++ x)) 0) 0 14 =
    c.dropped-verdict.ensures ∙ ap (λ m. pick (eqb m 0) 0 14) (ap (λ m. m + length x) f ∙ sym (length-append k x)) in
    record {
      outcome = (λ xs hs b.
          let s = session_of a.session xs hs in
          let q = front_dropped plugin s b [] 14 (ap (turn_at plugin) c.requires) x (place_said a.session.reading) k in
          says_same _ xs hs o o o b _ _ refl (dropped_is s b (k ++ x) ∙ sym q) (says_emptied _ xs hs o b _ s (rw (c.keeping-emptied.ensures, n))));
      rest = (refl, ap (λ s. s.name) c.keeping-emptied.ensures);
    }
