-- The opening, and what a chunk is judged as by the call that receives it.
use Prim.Native.Nat.{ℕ}
use mathlib.Core.Path.{◌≡◌, refl, sym, ap, ap₂, ◌∙◌}
use mathlib.Core.List.{List, [], ◌∷◌}
use lib.ListN.{length}
use native.Mathlib.Omega.{arith}
use Rattle.refusal.specs.Same.{same}
use Rattle.refusal.specs.Run.{all}
use Rattle.symbols.specs.Charset.{is_lower}
use Rattle.bech32.specs.Text.{is_name, is_name_byte}
use Rattle.session.specs.Opening.{recipient_v1}
use Rattle.session.specs.Session.{opened}
use Rattle.phase_one.specs.PhaseOne as one
use Rattle.conversation.specs.Kinds.{Buffers, buffers_of}
use Rattle.conversation.specs.PhaseTwo.{BuffersTwo}
use Rattle.chunks.specs.Taking.{plugin, Intake}
use Rattle.chunks.specs.Chunks.{Outcome, chunked}
use Rattle.judging.specs.Judging.{Standing, going, behind_chunk, judge_name, judged_from, start}
use Rattle.judging.specs.Said.{buffers_in}
use mathlib.Core.Bool.{false}

-- a session of recipient-v1 just opened is where judging starts
pub opened_start : (opened recipient_v1 judge_name false).session ≡ start.session
unfolding same all is_name is_name_byte is_lower
opened_start = refl

-- a buffer of no bytes
pub empty_list : (l : List ℕ) → length l ≡ 0 → l ≡ []
empty_list [] h = refl
empty_list (x ∷ l) h = absurd (omega arith)

-- a chunk that was received, with no buffer for header stanzas
pub received_judged : (o : Outcome) (i : Intake) (r i' k h : List ℕ) (c : BuffersTwo) (d : Standing) (b : Buffers) (bytes : List ℕ) → length h ≡ 0 →
    o ≡ chunked plugin i b bytes [] → o.buffers ≡ buffers_of (one.buffers_of r i' k h) c → d ≡ behind_chunk o →
    record { standing = d; buffers = buffers_in r i' k c } ≡ judged_from (going i) b bytes
received_judged o i r i' k h c d b bytes z e q s =
    ap₂ (λ (d : Standing) (b : Buffers). record { standing = d; buffers = b }) s (ap (λ h. buffers_of (one.buffers_of r i' k h) c) (sym (empty_list h z)) ∙ sym q)
    ∙ ap (λ (o : Outcome). record { standing = behind_chunk o; buffers = o.buffers }) e
