-- What an end's calls send is whole stanzas, one behind the other; cut anyhow, the other end takes them as the stanzas that were sent.
use Prim.Native.Nat.{ℕ}
use mathlib.Core.Path.{◌≡◌, refl, sym, ap, ap₂, subst, ◌∙◌}
use mathlib.Core.Bool.{Bool, true, false}
use mathlib.Core.List.{List, [], ◌∷◌, ◌++◌, map, append_assoc, append-nil}
use lib.Dec.{eqb}
use lib.ListN.{take}
use lib.Pow.{are_bytes}
use borrow.Author.Tests.{eqb-true, eqb-false}
use Rattle.refusal.specs.Pick.{pick}
use Rattle.refusal.proofs.Laws.Booleans.{cases}
use Rattle.stanza.specs.Automaton.{start}
use Rattle.session.specs.Session.{Session}
use Rattle.session.specs.declared.phases.Phase.{Phase}
use Rattle.session.specs.declared.phases.Phase.TheVariants.{One, Two, Awaiting, Ended, Closed}
use Rattle.conversation.specs.Calls as one_call
use Rattle.conversation.specs.Calls.{Call, receive, send, receive_two, send_two, respond, outcome, written_by}
use Rattle.conversation.specs.Kinds.{Buffers}
use Rattle.conversation.specs.Phases.{All, Whole, command_in}
use Rattle.conversation.specs.ReceivingTwo.{AtOnce, writes, silent, at_once, text_of}
use Rattle.conversation.specs.TurnsTwo.{answered}
use Rattle.conversation.specs.WrittenRead.{ReadsBack}
use Rattle.conversation.proofs.Laws.Refusals.{refusal}
use Rattle.conversation.proofs.Laws.WrittenRead.{phase_one_written, command_written, at_once_text_lem, at_once_written, response_written}
use Rattle.chunks.specs.Cutting.{cut}
use Rattle.chunks.specs.Taking.{End, client, plugin, ample, stanza_call, Intake, emptied, joined}
use Rattle.chunks.specs.Uncut.{Piece, chunk, reply, outcome_of, after, numbers, NoneHeldUp, is_waiting, is_unfit, uncut, text_in, stanzas_in}
use Rattle.chunks.specs.Reached.{AnyCall, piece, sends_one, sends_two, finishes, Has, intake_after}
use Rattle.chunks.specs.AnyCalls.{buffers_after, stanza_calls, calls_in, calls_all}
use Rattle.chunks.specs.Sent.{sent_at, sent_any, OfBytes, SentStanza, text_sent, at_once_sent, stanzas_by, stanzas_sent, texts_sent}
use Rattle.chunks.proofs.Laws.AnyCalls.{call_as, joined_front, pick_all, stanzas_all}
use Rattle.chunks.proofs.Laws.Orders.{all_append, joined_append}
use Rattle.chunks.proofs.Laws.Reached.{Keeps, call_keeps}
use Rattle.chunks.proofs.Laws.Written.{back_whole, chunks_written}

-- ---- one call

-- a stanza that was sent reads back
abbrev Reads : SentStanza → Type 0
Reads x = ReadsBack x.line x.body (text_sent x)

-- a call that sends what it writes, and its body is of bytes
abbrev Sends : Call → Type 0
Sends (receive text) = Unit
Sends (send word arguments body out) = are_bytes body ≡ true
Sends (receive_two text out) = Unit
Sends (one_call.reply r body out) = are_bytes body ≡ true
Sends (send_two word arguments body out) = are_bytes body ≡ true
Sends (respond text out) = ⊥

-- bytes that are the texts of these stanzas
record AsSent (w : List ℕ) (xs : List SentStanza) : Type 0 where
  bytes : w ≡ joined (map text_sent xs) []
  read : All Reads xs

none_sent : AsSent [] []
unfolding All joined
none_sent = record { bytes = refl; read = tt }

one_sent : (w : List ℕ) (x : SentStanza) → ReadsBack x.line x.body w → AsSent w (x ∷ [])
unfolding All joined
one_sent w x k = record { bytes = k.is_text ∙ sym (append-nil (text_sent x)); read = (subst (ReadsBack x.line x.body) k.is_text k, tt) }

-- what the client answers at once
at_once_sent_lem : (s : Session) (b : Buffers) (text out : List ℕ) → (outcome s b (receive_two text out)).number ≡ 0 → AsSent (written_by s b (receive_two text out)) (stanzas_by s (receive_two text out))
at_once_sent_lem s b text out h = go (at_once s.screen (command_in s.machine text)) refl
  where
    go : (a : AtOnce) → at_once s.screen (command_in s.machine text) ≡ a → AsSent (written_by s b (receive_two text out)) (at_once_sent a)
    go (writes r) q = one_sent (written_by s b (receive_two text out)) _ (at_once_written s b text out r h q).back
    go silent q = subst (λ w. AsSent w []) (sym (at_once_text_lem s b text out h ∙ ap text_of q)) none_sent

-- an accepted call
accepted_sent : (s : Session) (b : Buffers) (c : Call) → Sends c → (outcome s b c).number ≡ 0 → AsSent (written_by s b c) (stanzas_by s c)
accepted_sent s b (receive text) y h = none_sent
accepted_sent s b (send word arguments body out) y h = one_sent (written_by s b (send word arguments body out)) _ (phase_one_written s b word arguments body out y h).back
accepted_sent s b (receive_two text out) y h = at_once_sent_lem s b text out h
accepted_sent s b (one_call.reply r body out) y h = one_sent (written_by s b (one_call.reply r body out)) _ (response_written s b r body out y h).back
accepted_sent s b (send_two word arguments body out) y h = one_sent (written_by s b (send_two word arguments body out)) _ (command_written s b word arguments body out y h).back
accepted_sent s b (respond text out) y h = absurd y

-- a refused one writes nothing
call_sent : (s : Session) (b : Buffers) (c : Call) → Sends c → AsSent (written_by s b c) (pick (eqb (outcome s b c).number 0) (stanzas_by s c) [])
call_sent s b c y =
    let n = (outcome s b c).number in
    cases (eqb n 0) (λ f. rw f (accepted_sent s b c y (eqb-true n 0 f)))
    (λ f. rw f (subst (λ w. AsSent w []) (sym (ap (λ n. take n (outcome s b c).output) (refusal s b c (eqb-false n 0 f)).size)) none_sent))

-- ---- lists of calls of one stanza

map_append : (xs ys : List SentStanza) → map text_sent (xs ++ ys) ≡ map text_sent xs ++ map text_sent ys
map_append [] ys = refl
map_append (x ∷ xs) ys = ap (λ r. text_sent x ∷ r) (map_append xs ys)

sent_append : (v w : List ℕ) (xs ys : List SentStanza) → AsSent v xs → AsSent w ys → AsSent (v ++ w) (xs ++ ys)
sent_append v w xs ys k l = record {
  bytes = ap₂ (λ v w. v ++ w) k.bytes l.bytes ∙ joined_front (map text_sent xs) (joined (map text_sent ys) []) ∙ sym (joined_append (map text_sent xs) (map text_sent ys) []) ∙ ap (λ ts. joined ts []) (sym (map_append xs ys));
  read = all_append Reads xs ys k.read l.read;
}

calls_sent : (s : Session) (b : Buffers) (cs : List Call) → All Sends cs → AsSent (joined (one_call.written s b cs) []) (stanzas_sent s b cs)
unfolding All one_call.written joined stanzas_sent
calls_sent s b [] h = none_sent
calls_sent s b (c ∷ cs) h =
    let o = outcome s b c in
    sent_append (written_by s b c) (joined (one_call.written o.session o.buffers cs) []) (pick (eqb o.number 0) (stanzas_by s c) []) (stanzas_sent o.session o.buffers cs) (call_sent s b c h.0)
    (calls_sent o.session o.buffers cs h.1)

-- calls that send nothing
abbrev Silent : Call → Type 0
Silent c = (s : Session) → stanzas_by s c ≡ []

same_either : (f : Bool) → pick {X = List SentStanza} f [] [] ≡ []
same_either true = refl
same_either false = refl

silent_sent : (s : Session) (b : Buffers) (cs : List Call) → All Silent cs → stanzas_sent s b cs ≡ []
unfolding All stanzas_sent
silent_sent s b [] h = refl
silent_sent s b (c ∷ cs) h =
    let o = outcome s b c in
    ap₂ (λ (x y : List SentStanza). x ++ y) (ap (λ x. pick (eqb o.number 0) x []) (h.0 s) ∙ same_either (eqb o.number 0)) (silent_sent o.session o.buffers cs h.1)

stanzas_append : (s : Session) (b : Buffers) (xs ys : List Call) → stanzas_sent s b (xs ++ ys) ≡ stanzas_sent s b xs ++ stanzas_sent (one_call.after s b xs).session (one_call.after s b xs).buffers ys
unfolding stanzas_sent one_call.after
stanzas_append s b [] ys = refl
stanzas_append s b (c ∷ xs) ys =
    let o = outcome s b c in
    let here = pick (eqb o.number 0) (stanzas_by s c) [] in
    ap (λ z. here ++ z) (stanzas_append o.session o.buffers xs ys) ∙ sym (append_assoc here (stanzas_sent o.session o.buffers xs) _)

-- ---- any call

client_sends : (p : Phase) (t : List ℕ) → Sends (stanza_call client p t)
client_sends p t = tt

plugin_silent : (p : Phase) (t : List ℕ) → Silent (stanza_call plugin p t)
plugin_silent One t s = refl
plugin_silent Two t s = refl
plugin_silent (Awaiting w) t s = refl
plugin_silent Ended t s = refl
plugin_silent Closed t s = refl

-- the client's
client_calls : (i : Intake) (b : Buffers) (c : AnyCall) → Has client c → OfBytes c → All Sends (calls_in client i b c)
unfolding All
client_calls i b (piece (chunk bytes out)) h y =
    let c = cut i.reading i.kept bytes in
    pick_all Sends client client_sends (eqb (outcome_of client i b (chunk bytes out)).number 15) [] (stanza_calls client i.session b c.texts c.rest) tt (stanzas_all Sends client client_sends c.texts i.session b c.rest)
client_calls i b (piece (reply r body out)) h y =
    let c = cut start [] i.kept in
    pick_all Sends client client_sends (is_unfit (outcome_of client i b (reply r body out))) [] (one_call.reply r body ample ∷ stanza_calls client (answered i.session) b c.texts c.rest) tt
    (y, stanzas_all Sends client client_sends c.texts (answered i.session) b c.rest)
client_calls i b (sends_one word arguments body out) h y = (y, tt)
client_calls i b (sends_two word arguments body out) h y = absurd h
client_calls i b finishes h y = tt

any_sent : (e : End) (i : Intake) (b : Buffers) (c : AnyCall) → Has e c → OfBytes c → Keeps e i → AsSent (sent_at e i b c) (stanzas_sent i.session b (calls_in e i b c))
unfolding All
any_sent client i b c h y k = subst (λ w. AsSent w (stanzas_sent i.session b (calls_in client i b c))) (sym (call_as client i b c h k).written) (calls_sent i.session b (calls_in client i b c) (client_calls i b c h y))
any_sent plugin i b (piece (chunk bytes out)) h y k =
    let c = cut i.reading i.kept bytes in
    subst (AsSent []) (sym (silent_sent i.session b (calls_in plugin i b (piece (chunk bytes out)))
    (pick_all Silent plugin plugin_silent (eqb (outcome_of plugin i b (chunk bytes out)).number 15) [] (stanza_calls plugin i.session b c.texts c.rest) tt (stanzas_all Silent plugin plugin_silent c.texts i.session b c.rest)))) none_sent
any_sent plugin i b (piece (reply r body out)) h y k = subst (AsSent []) (sym (silent_sent i.session b [] tt)) none_sent
any_sent plugin i b (sends_one word arguments body out) h y k = absurd h
any_sent plugin i b (sends_two word arguments body out) h y k =
    let c = sends_two word arguments body out in
    subst (λ w. AsSent w (stanzas_sent i.session b (calls_in plugin i b c))) (sym (call_as plugin i b c h k).written) (calls_sent i.session b (calls_in plugin i b c) (y, tt))
any_sent plugin i b finishes h y k = subst (AsSent []) (sym (silent_sent i.session b [] tt)) none_sent

all_sent : (e : End) (i : Intake) (b : Buffers) (cs : List AnyCall) → All (Has e) cs → All OfBytes cs → Keeps e i → AsSent (sent_any e i b cs) (stanzas_sent i.session b (calls_all e i b cs))
unfolding All sent_any calls_all stanzas_sent
all_sent e i b [] h y k = none_sent
all_sent e i b (c ∷ cs) h y k =
    let i' = intake_after e i b c in
    let b' = buffers_after e i b c in
    let a = call_as e i b c h.0 k in
    let ds = calls_all e i' b' cs in
    subst (AsSent (sent_at e i b c ++ sent_any e i' b' cs))
    (ap (λ z. stanzas_sent i.session b (calls_in e i b c) ++ z) (ap₂ (λ s b. stanzas_sent s b ds) a.session a.buffers) ∙ sym (stanzas_append i.session b (calls_in e i b c) ds))
    (sent_append (sent_at e i b c) (sent_any e i' b' cs) (stanzas_sent i.session b (calls_in e i b c)) (stanzas_sent i'.session b' ds) (any_sent e i b c h.0 y.0 k)
    (all_sent e i' b' cs h.1 y.1 (call_keeps e i b c h.0 k)))

-- ---- the theorem

-- what any calls of an end send, from a place that calls can reach, is the texts of the stanzas that were sent, one behind the other
pub sent_texts : (e : End) (i : Intake) (b : Buffers) (cs : List AnyCall) → Keeps e i → All (Has e) cs → All OfBytes cs → sent_any e i b cs ≡ joined (texts_sent i.session b (calls_all e i b cs)) []
sent_texts e i b cs k h y = (all_sent e i b cs h y k).bytes

-- each of which reads back, with its arguments and its body
pub sent_read : (e : End) (i : Intake) (b : Buffers) (cs : List AnyCall) → Keeps e i → All (Has e) cs → All OfBytes cs →
    All (λ x. ReadsBack x.line x.body (text_sent x)) (stanzas_sent i.session b (calls_all e i b cs))
sent_read e i b cs k h y = (all_sent e i b cs h y k).read

wholes : (xs : List SentStanza) → All Reads xs → All Whole (map text_sent xs)
unfolding All
wholes [] h = tt
wholes (x ∷ xs) h = (back_whole x.line x.body (text_sent x) h.0, wholes xs h.1)

-- however they are cut, an end that receives them takes them as the stanzas that were sent, each by itself and in order
pub sent_received : (e : End) (i : Intake) (b : Buffers) (cs : List AnyCall) → Keeps e i → All (Has e) cs → All OfBytes cs → (other : End) (s : Session) (b' : Buffers) (ds : List Piece) →
    text_in ds ≡ sent_any e i b cs → NoneHeldUp (numbers other (emptied s []) b' ds) → is_waiting other (after other (emptied s []) b' ds).intake.session.phase ≡ false →
    stanzas_in (uncut other (emptied s []) b' [] ds) ≡ texts_sent i.session b (calls_all e i b cs)
sent_received e i b cs k h y other s b' ds q n w =
    let a = all_sent e i b cs h y k in
    chunks_written other s b' ds (texts_sent i.session b (calls_all e i b cs)) (wholes (stanzas_sent i.session b (calls_all e i b cs)) a.read) (q ∙ a.bytes) n w
