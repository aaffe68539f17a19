-- The order theorem of phase one is not empty: a phase of four commands and a rearrangement of it with an unknown command more.
use Prim.Native.Nat.{ℕ, ◌≤◌}
use mathlib.Core.Path.{◌≡◌, refl, ap}
use mathlib.Core.Bool.{false}
use mathlib.Core.List.Permᴰ
use mathlib.Core.List.{List, [], ◌∷◌, map}
use lib.Dec.{lit≤}
use lib.ListN.{length, replicate}
use native.Mathlib.Omega.{arith}
use Rattle.strict_base64.specs.Alphabet.{is_character, value_of, character_of}
use Rattle.strict_base64.specs.Code.{encoded, decoded, ends_well}
use Rattle.strict_base64.specs.Lines.{wrapped, unwrapped}
use Rattle.refusal.specs.Run.{run, is_graphic}
use Rattle.refusal.specs.Same.{same}
use Rattle.stanza.specs.Arguments.{is_word_byte, before, words}
use Rattle.stanza.specs.Automaton.{next, verdict, scan}
use Rattle.stanza.specs.Grammar.{stanza_text}
use Rattle.stanza.specs.Reading.{found}
use Rattle.phase_one.specs.Commands.{add_recipient, add_identity, wrap_file_key, done_command, line_sent}
use Rattle.phase_one.specs.PhaseOne.{buffers_of}
use Rattle.phase_one.specs.Views.{KindOne, recipients, identities, keys, headers, buffer_of}
use Rattle.session.specs.declared.opening.Machine.TheVariants.{RecipientV1}
use Rattle.session.specs.Session.{Session, opened_session}
use Rattle.conversation.specs.Kinds as kinds
use Rattle.conversation.specs.Kinds.{Buffers, first, view_of}
use Rattle.conversation.specs.PhaseTwo as two
use Rattle.conversation.specs.Calls.{Call, state_of, after, Accepted}
use Rattle.conversation.specs.Phases.{All, keep, Whole, one_part, Block, Phase, blocks_of, IsPhase, Supply, calls_of, Strand, of_kind, of_errors, of_one_file, is_in, Rearranged, SameTables, SameOutcome, texts_of}
use Rattle.conversation.specs.Allowed.{rows_in, slots_of, bytes_of, Rising, Distinct, Allowed}
use Rattle.conversation.proofs.Laws.AllowedOne.{accepted_iff, accepted_tables}
use Rattle.conversation.proofs.Laws.OrderOne.{order_one}

-- "-> add-recipient a", and the same with b
abbrev recipient_a : List ℕ
recipient_a = stanza_text (line_sent add_recipient (97 ∷ [])) []

abbrev recipient_b : List ℕ
recipient_b = stanza_text (line_sent add_recipient (98 ∷ [])) []

-- "-> add-identity c"
abbrev identity_c : List ℕ
identity_c = stanza_text (line_sent add_identity (99 ∷ [])) []

-- "-> wrap-file-key" with 16 zero bytes
abbrev file_key : List ℕ
file_key = stanza_text (line_sent wrap_file_key []) (replicate 16 0)

-- "-> x", which is no command of phase one
abbrev unknown : List ℕ
unknown = stanza_text (120 ∷ []) []

-- "-> done"
abbrev end : List ℕ
end = stanza_text (line_sent done_command []) []

-- the plugin's name, "x"
abbrev pub plugin : List ℕ
plugin = 120 ∷ []

-- a text by itself
abbrev alone : List ℕ → Block
alone t = record { text = t; replies = [] }

-- a phase, and the same commands in another order with an unknown one among them
abbrev pub given : Phase
given = record { ahead = alone recipient_a ∷ alone file_key ∷ alone recipient_b ∷ alone identity_c ∷ []; last = alone end }

abbrev pub turned : Phase
turned = record { ahead = alone identity_c ∷ alone unknown ∷ alone recipient_a ∷ alone recipient_b ∷ alone file_key ∷ []; last = alone end }

-- ---- both are phases, and rearrangements of each other: by computation

given_whole : All (λ x. Whole x.text) (blocks_of given)
unfolding All is_character value_of character_of encoded decoded ends_well wrapped unwrapped run is_graphic next verdict scan found
given_whole = (record { line = 18; body = 0; read = refl }, (record { line = 16; body = 16; read = refl }, (record { line = 18; body = 0; read = refl }, (record { line = 17; body = 0; read = refl }, (record { line = 7; body = 0; read = refl }, tt)))))

-- the first is a phase
pub given_phase : IsPhase one_part given
unfolding All is_character value_of character_of encoded decoded ends_well wrapped unwrapped run is_graphic next verdict scan found is_word_byte before words same
given_phase = record { whole = given_whole; quiet = (refl, (refl, (refl, (refl, (refl, tt))))); done_once = (refl, (refl, (refl, (refl, tt)))); done_last = refl }

unknown_whole : Whole unknown
unfolding is_character value_of character_of encoded decoded ends_well wrapped unwrapped run is_graphic next verdict scan found
unknown_whole = record { line = 4; body = 0; read = refl }

-- the second is one
pub turned_phase : IsPhase one_part turned
unfolding All is_character value_of character_of encoded decoded ends_well wrapped unwrapped run is_graphic next verdict scan found is_word_byte before words same
turned_phase =
    let w = given_whole in
    record {
      whole = (w.1.1.1.0, (unknown_whole, (w.0, (w.1.1.0, (w.1.0, (w.1.1.1.1.0, tt))))));
      quiet = (refl, (refl, (refl, (refl, (refl, (refl, tt))))));
      done_once = (refl, (refl, (refl, (refl, (refl, tt)))));
      done_last = refl;
    }

-- each kind's own order is kept
pub rearranged : Rearranged one_part RecipientV1 plugin given turned
unfolding keep is_character value_of character_of encoded decoded ends_well wrapped unwrapped run is_graphic next verdict scan found is_word_byte before words same
rearranged = record {
  same_last = refl;
  permuted = Permᴰ.trans (Permᴰ.middle (alone identity_c) (alone recipient_a ∷ alone file_key ∷ alone recipient_b ∷ []) []) (Permᴰ.cons refl (Permᴰ.cons refl (Permᴰ.swap refl refl)));
  same_order = same_order;
}
  where
    same_order : (k : Strand) → keep (is_in one_part RecipientV1 plugin k) given.ahead ≡ keep (is_in one_part RecipientV1 plugin k) turned.ahead
    same_order (of_kind recipients) = refl
    same_order (of_kind identities) = refl
    same_order (of_kind keys) = refl
    same_order (of_kind headers) = refl
    same_order of_errors = refl
    same_order (of_one_file f) = refl

-- ---- with buffers of 2, 1, 16 and 0 bytes they are allowed

abbrev pub lent : Buffers
lent = kinds.buffers_of (buffers_of (0 ∷ 0 ∷ []) (0 ∷ []) (replicate 16 0) []) (two.buffers_of [] [] [])

allowed : Allowed RecipientV1 plugin lent.first (texts_of given)
unfolding All rows_in bytes_of Rising Distinct is_character value_of character_of encoded decoded ends_well wrapped unwrapped run is_graphic next verdict scan found is_word_byte before words same
allowed = record { right = (refl, (refl, (refl, (refl, (refl, tt))))); slots = slots; bytes = bytes; rising = tt; distinct = ((λ e. let z : ◌≡◌ {A = ℕ} 97 98 = cc in omega arith, tt), (tt, tt)) }
  where
    slots : (k : KindOne) → length (rows_in RecipientV1 plugin k (texts_of given)) ≤ slots_of k
    slots recipients = lit≤ tt
    slots identities = lit≤ tt
    slots keys = lit≤ tt
    slots headers = lit≤ tt

    bytes : (k : KindOne) → bytes_of (rows_in RecipientV1 plugin k (texts_of given)) ≤ length (buffer_of k lent.first)
    bytes recipients = lit≤ tt
    bytes identities = lit≤ tt
    bytes keys = lit≤ tt
    bytes headers = lit≤ tt

-- the plugin's session, just opened
abbrev pub start : Session
start = opened_session RecipientV1 plugin false

-- phase one lends no output buffers
abbrev none : Supply
none = λ i. []

-- the calls of a phase
abbrev pub calls : Phase → List Call
calls p = calls_of one_part none (blocks_of p)

-- the theorem, for the same buffers
ordered : (b : Buffers) → SameOutcome one_part (state_of start b) (state_of start b) given turned none none
ordered b =
    order_one (state_of start b) (state_of start b) refl refl (record { machine = refl; name = refl; screen = refl; views = λ k. refl; lengths = λ k. refl })
    given turned given_phase turned_phase rearranged none none

-- so both are accepted
pub both_accepted : Accepted start lent (calls given) × Accepted start lent (calls turned)
both_accepted =
    let a = (accepted_iff RecipientV1 plugin false lent none given given_phase).1 allowed in
    (a, (ordered lent).accepted.0 a)

-- and leave equal tables
pub same_tables : SameTables (after start lent (calls given)) (after start lent (calls turned))
same_tables = (ordered lent).tables both_accepted.0

-- in which the recipients are a and b
pub two_recipients : map (λ r. r.payload) (view_of (first recipients) (after start lent (calls turned)).session.tables (after start lent (calls turned)).buffers) ≡ (97 ∷ []) ∷ (98 ∷ []) ∷ []
unfolding rows_in is_character value_of character_of encoded decoded ends_well wrapped unwrapped run is_graphic next verdict scan found is_word_byte before words same
two_recipients = ap (map (λ r. r.payload)) ((accepted_tables RecipientV1 plugin false lent none turned turned_phase both_accepted.1).views recipients)

-- a recipients' buffer of 1 byte
abbrev pub short : Buffers
short = kinds.buffers_of (buffers_of (0 ∷ []) (0 ∷ []) (replicate 16 0) []) (two.buffers_of [] [] [])

-- with it both are refused
pub both_refused : (Accepted start short (calls given) → ⊥) × (Accepted start short (calls turned) → ⊥)
unfolding rows_in bytes_of is_character value_of character_of encoded decoded ends_well wrapped unwrapped run is_graphic next verdict scan found is_word_byte before words same
both_refused =
    let no : Accepted start short (calls given) → ⊥ = λ a. omega (arith, ((accepted_iff RecipientV1 plugin false short none given given_phase).0 a).bytes recipients) in
    (no, λ a. no ((ordered short).accepted.1 a))
