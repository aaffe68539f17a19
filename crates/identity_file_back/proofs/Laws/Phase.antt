-- The commands of some valid lines and done are a phase one that is allowed, whatever the machine and the plugin's name; its rows are theirs.
use Prim.Native.Nat.{ℕ, ◌≤◌}
use mathlib.Core.Path.{◌≡◌, refl, sym, ap, ap₂, subst, ◌∙◌}
use mathlib.Core.Bool.{true, false, ◌&&◌}
use mathlib.Core.List.{List, [], ◌∷◌, ◌++◌, map, append-nil, append_assoc}
use lib.Dec.{eqb}
use lib.ListN.{length, get_or, length-append}
use native.Mathlib.Omega.{arith}
use Rattle.refusal.specs.Pick.{pick}
use Rattle.refusal.specs.Same.{same}
use Rattle.stanza.specs.Arguments.{words, before, argument_of}
use Rattle.stanza.specs.Grammar.{stanza_text}
use Rattle.bech32.specs.Calls.{mark_of}
use Rattle.bech32.specs.Text as bech32
use Rattle.bech32.specs.Text.{parse}
use Rattle.tables.specs.Tables.{Row}
use Rattle.phase_one.specs.Commands as one_command
use Rattle.phase_one.specs.Commands.{identity, done, bad, word_in, row_command, payload_of}
use Rattle.phase_one.specs.PhaseOne.{BuffersOne, command_in, payload_in}
use Rattle.phase_one.specs.Views.{KindOne, recipients, identities, keys, headers, buffer_of, rows_of}
use Rattle.session.specs.declared.opening.Machine.{Machine}
use Rattle.session.specs.declared.opening.Machine.TheVariants.{RecipientV1, IdentityV1}
use Rattle.conversation.specs.Allowed.{is_right, rows_in, slots_of, bytes_of, Rising, Distinct, Allowed}
use Rattle.conversation.specs.Phases as phases
use Rattle.conversation.specs.Phases.{All, Whole, line_in, body_in, is_done, rows_from, one_part, Block, Phase, blocks_of, texts_of, Quiet, IsPhase}
use Rattle.conversation.specs.Shapes.{BeginsWhole, ShapedOne}
use Rattle.conversation.specs.WrittenRead.{ReadsBack}
use Rattle.conversation.proofs.Laws.WrittenRead.{reads_back}
use Rattle.chunks.specs.Taking.{joined}
use Rattle.chunks.proofs.Laws.Written.{back_whole}
use Rattle.identity_file.specs.Files.{add_identity_text, done_word, command_of, commands_of, transcript}
use Rattle.identity_file_back.specs.ReadBack.{entry_of}
use Rattle.identity_file_back.proofs.Laws.Texts.{Argument, command_words_lem, command_writable, done_writable}

-- ---- one text

abbrev pub done_text : List ℕ
done_text = stanza_text done_word []

command_back : (l : List ℕ) → Argument l → ReadsBack (add_identity_text ++ l) [] (command_of l)
command_back l a = reads_back (add_identity_text ++ l) [] (command_of l) refl (command_writable l a) refl

done_back : ReadsBack done_word [] done_text
done_back = reads_back done_word [] done_text refl done_writable refl

-- its arguments' text and its body
parts : (line text : List ℕ) → ReadsBack line [] text → (line_in text ≡ line) × (body_in text ≡ [])
parts line text r = (ap line_in (sym (append-nil text)) ∙ r.same_line [], ap body_in (sym (append-nil text)) ∙ r.same_body [])

-- an identity's command, to either machine
command_one : (machine : Machine) (name l : List ℕ) → Argument l → command_in machine name (add_identity_text ++ l) [] ≡ identity (mark_of (parse bech32.identity l) name)
unfolding same
command_one RecipientV1 name l a =
    ap (λ ws. row_command (word_in RecipientV1 (get_or ws 0 [])) name (add_identity_text ++ l) 0) (command_words_lem l a)
    ∙ ap (λ ws. pick (eqb (length ws) 2 && eqb 0 0) (identity (mark_of (parse bech32.identity (get_or ws 1 [])) name)) (bad 4)) (command_words_lem l a)
command_one IdentityV1 name l a =
    ap (λ ws. row_command (word_in IdentityV1 (get_or ws 0 [])) name (add_identity_text ++ l) 0) (command_words_lem l a)
    ∙ ap (λ ws. pick (eqb (length ws) 2 && eqb 0 0) (identity (mark_of (parse bech32.identity (get_or ws 1 [])) name)) (bad 4)) (command_words_lem l a)

done_one : (machine : Machine) (name : List ℕ) → command_in machine name done_word [] ≡ done
unfolding same words before
done_one RecipientV1 name = refl
done_one IdentityV1 name = refl

-- the command of a text
command_in_lem : (machine : Machine) (name l : List ℕ) → Argument l → phases.command_of machine name (command_of l) ≡ identity (mark_of (parse bech32.identity l) name)
command_in_lem machine name l a = let p = parts (add_identity_text ++ l) (command_of l) (command_back l a) in ap₂ (command_in machine name) p.0 p.1 ∙ command_one machine name l a

done_in : (machine : Machine) (name : List ℕ) → phases.command_of machine name done_text ≡ done
done_in machine name = let p = parts done_word done_text done_back in ap₂ (command_in machine name) p.0 p.1 ∙ done_one machine name

-- the rows that it makes
command_rows : (machine : Machine) (name l : List ℕ) → Argument l → (k : KindOne) → rows_from machine name k (command_of l) ≡ rows_of (identity (mark_of (parse bech32.identity l) name)) k l
command_rows machine name l a k =
    let line = add_identity_text ++ l in
    let p = parts line (command_of l) (command_back l a) in
    let m = mark_of (parse bech32.identity l) name in
    let q : argument_of line 1 ≡ l = ap (λ ws. get_or ws 1 []) (command_words_lem l a) in
    ap₂ (λ line body. rows_of (command_in machine name line body) k (payload_in machine name line body)) p.0 p.1
    ∙ ap (λ c. rows_of c k (payload_of c line [])) (command_one machine name l a) ∙ ap (rows_of (identity m) k) q

done_rows : (machine : Machine) (name : List ℕ) (k : KindOne) → rows_from machine name k done_text ≡ []
done_rows machine name k = ap (λ c. rows_of c k (payload_of c (line_in done_text) (body_in done_text))) (done_in machine name)

-- only done is done
command_not_done : (l : List ℕ) → Argument l → is_done (command_of l) ≡ false
unfolding same
command_not_done l a =
    ap (λ line. same (argument_of line 0) one_command.done_word) (parts (add_identity_text ++ l) (command_of l) (command_back l a)).0
    ∙ ap (λ ws. same (get_or ws 0 []) one_command.done_word) (command_words_lem l a)

done_done : is_done done_text ≡ true
unfolding same words before
done_done = ap (λ line. same (argument_of line 0) one_command.done_word) (parts done_word done_text done_back).0

command_whole : (l : List ℕ) → Argument l → Whole (command_of l)
command_whole l a = back_whole (add_identity_text ++ l) [] (command_of l) (command_back l a)

done_whole : Whole done_text
done_whole = back_whole done_word [] done_text done_back

-- ---- all of them

abbrev pub texts_for : List (List ℕ) → List (List ℕ)
texts_for ls = map command_of ls ++ done_text ∷ []

-- what is written is these, one behind the other
pub written_joined : (ls : List (List ℕ)) → transcript ls ≡ joined (texts_for ls) []
unfolding commands_of joined
written_joined [] = sym (append-nil done_text)
written_joined (l ∷ ls) = append_assoc (command_of l) (commands_of ls) done_text ∙ ap (λ t. command_of l ++ t) (written_joined ls)

-- a property of each
all_commands : (P : List ℕ → Type 0) (ls : List (List ℕ)) → All Argument ls → ((l : List ℕ) → Argument l → P (command_of l)) → All P (map command_of ls)
unfolding All
all_commands P [] a f = tt
all_commands P (l ∷ ls) a f = (f l a.0, all_commands P ls a.1 f)

all_texts : (P : List ℕ → Type 0) (ls : List (List ℕ)) → All Argument ls → ((l : List ℕ) → Argument l → P (command_of l)) → P done_text → All P (texts_for ls)
unfolding All
all_texts P [] a f d = (d, tt)
all_texts P (l ∷ ls) a f d = (f l a.0, all_texts P ls a.1 f d)

pub texts_whole : (ls : List (List ℕ)) → All Argument ls → All Whole (texts_for ls)
texts_whole ls a = all_texts Whole ls a command_whole done_whole

begins : (t : List ℕ) → Whole t → BeginsWhole t
begins t w = record { line = w.line; body = w.body; taken = length t; read = w.read }

pub texts_shaped : (ls : List (List ℕ)) → All Argument ls → ShapedOne (texts_for ls)
texts_shaped ls a = record {
  ahead = map command_of ls;
  last = done_text;
  texts = refl;
  whole = all_texts BeginsWhole ls a (λ l h. begins (command_of l) (command_whole l h)) (begins done_text done_whole);
  done_once = all_commands (λ t. is_done t ≡ false) ls a command_not_done;
  done_last = done_done;
}

-- ---- their rows

abbrev pub rows_for : List ℕ → List (List ℕ) → KindOne → List Row
rows_for name ls recipients = []
rows_for name ls identities = map (entry_of name) ls
rows_for name ls keys = []
rows_for name ls headers = []

none_for : (name : List ℕ) (k : KindOne) → [] ≡ rows_for name [] k
none_for name recipients = refl
none_for name identities = refl
none_for name keys = refl
none_for name headers = refl

more_for : (name l : List ℕ) (ls : List (List ℕ)) (k : KindOne) → rows_of (identity (mark_of (parse bech32.identity l) name)) k l ++ rows_for name ls k ≡ rows_for name (l ∷ ls) k
more_for name l ls recipients = refl
more_for name l ls identities = refl
more_for name l ls keys = refl
more_for name l ls headers = refl

pub texts_rows : (machine : Machine) (name : List ℕ) (ls : List (List ℕ)) → All Argument ls → (k : KindOne) → rows_in machine name k (texts_for ls) ≡ rows_for name ls k
unfolding All rows_in
texts_rows machine name [] a k = ap (λ r. r ++ []) (done_rows machine name k) ∙ none_for name k
texts_rows machine name (l ∷ ls) a k = ap₂ (λ x y. x ++ y) (command_rows machine name l a.0 k) (texts_rows machine name ls a.1 k) ∙ more_for name l ls k

-- ---- they are allowed

entries_length : (name : List ℕ) (ls : List (List ℕ)) → length (map (entry_of name) ls) ≡ length ls
entries_length name [] = refl
entries_length name (l ∷ ls) = omega (arith, entries_length name ls)

entries_bytes : (name : List ℕ) (ls : List (List ℕ)) → bytes_of (map (entry_of name) ls) ≡ length (joined ls [])
unfolding bytes_of joined
entries_bytes name [] = refl
entries_bytes name (l ∷ ls) = omega (arith, entries_bytes name ls, length-append l (joined ls []))

slots_for_lem : (name : List ℕ) (ls : List (List ℕ)) → length ls ≤ 64 → (k : KindOne) → length (rows_for name ls k) ≤ slots_of k
slots_for_lem name ls h recipients = omega arith
slots_for_lem name ls h identities = omega (arith, h, entries_length name ls)
slots_for_lem name ls h keys = omega arith
slots_for_lem name ls h headers = omega arith

bytes_for : (name : List ℕ) (ls : List (List ℕ)) (b : BuffersOne) → length (joined ls []) ≤ length b.identities → (k : KindOne) → bytes_of (rows_for name ls k) ≤ length (buffer_of k b)
unfolding bytes_of
bytes_for name ls b h recipients = omega arith
bytes_for name ls b h identities = omega (arith, h, entries_bytes name ls)
bytes_for name ls b h keys = omega arith
bytes_for name ls b h headers = omega arith

pub texts_allowed : (machine : Machine) (name : List ℕ) (b : BuffersOne) (ls : List (List ℕ)) → All Argument ls → length ls ≤ 64 → length (joined ls []) ≤ length b.identities → Allowed machine name b (texts_for ls)
unfolding Rising Distinct
texts_allowed machine name b ls a h n = record {
  right = all_texts (λ t. is_right (phases.command_of machine name t) ≡ true) ls a (λ l h. ap is_right (command_in_lem machine name l h)) (ap is_right (done_in machine name));
  slots = λ k. subst (λ r. length r ≤ slots_of k) (sym (texts_rows machine name ls a k)) (slots_for_lem name ls h k);
  bytes = λ k. subst (λ r. bytes_of r ≤ length (buffer_of k b)) (sym (texts_rows machine name ls a k)) (bytes_for name ls b n k);
  rising = subst Rising (sym (texts_rows machine name ls a headers)) tt;
  distinct = subst Distinct (sym (texts_rows machine name ls a recipients)) tt;
}

-- ---- as blocks

abbrev block : List ℕ → Block
block t = record { text = t; replies = [] }

abbrev pub phase_for : List (List ℕ) → Phase
phase_for ls = record { ahead = map (λ l. block (command_of l)) ls; last = block done_text }

pub phase_texts : (ls : List (List ℕ)) → texts_of (phase_for ls) ≡ texts_for ls
phase_texts [] = refl
phase_texts (l ∷ ls) = ap (λ ts. command_of l ∷ ts) (phase_texts ls)

all_ahead : (P : Block → Type 0) (ls : List (List ℕ)) → All Argument ls → ((l : List ℕ) → Argument l → P (block (command_of l))) → All P (map (λ l. block (command_of l)) ls)
unfolding All
all_ahead P [] a f = tt
all_ahead P (l ∷ ls) a f = (f l a.0, all_ahead P ls a.1 f)

all_blocks : (P : Block → Type 0) (ls : List (List ℕ)) → All Argument ls → ((l : List ℕ) → Argument l → P (block (command_of l))) → P (block done_text) → All P (blocks_of (phase_for ls))
unfolding All
all_blocks P [] a f d = (d, tt)
all_blocks P (l ∷ ls) a f d = (f l a.0, all_blocks P ls a.1 f d)

pub is_phase : (ls : List (List ℕ)) → All Argument ls → IsPhase one_part (phase_for ls)
is_phase ls a = record {
  whole = all_blocks (λ x. Whole x.text) ls a command_whole done_whole;
  quiet = all_blocks (Quiet one_part) ls a (λ l h. refl) refl;
  done_once = all_ahead (λ x. is_done x.text ≡ false) ls a command_not_done;
  done_last = done_done;
}
