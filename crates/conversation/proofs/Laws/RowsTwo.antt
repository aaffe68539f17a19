-- The command that an arguments' text and a body are read as, by the rows of phase two's table.
use Prim.Native.Nat.{ℕ, ◌≤◌}
use mathlib.Core.Path.{◌≡◌, refl, sym, ap, ap₂, ◌∙◌, subst}
use mathlib.Core.Bool.{Bool, true, false, ◌&&◌, ◌||◌, true≢false}
use mathlib.Core.Logic.{◌⊎◌, inl, inr, ⊎_elim}
use mathlib.Core.List.{List, [], ◌∷◌}
use lib.Dec.{leb, eqb}
use lib.ListN.{length, get_or}
use native.Mathlib.Omega.{arith}
use borrow.Author.Tests.{eqb-true, leb-true, le-leb}
use Rattle.refusal.specs.Pick.{pick}
use Rattle.refusal.specs.Same.{same}
use Rattle.refusal.proofs.Laws.Booleans.{and_true, cases}
use Rattle.refusal.proofs.Laws.Same.{same_refl, same_eq}
use Rattle.strict_base64.specs.Code.{is_base64}
use Rattle.stanza.specs.Arguments.{words, count_of, argument_of}
use Rattle.stanza.specs.Index.{read_index, ReadIndex, number, refused, decimal}
use Rattle.stanza.proofs.Laws.Index.{read_index_lem, read_decimal, read_number}
use Rattle.session.specs.declared.opening.Machine.{Machine}
use Rattle.session.specs.declared.opening.Machine.TheVariants.{RecipientV1, IdentityV1}
use Rattle.session.specs.declared.words.WordTwo.{WordTwo}
use Rattle.session.specs.declared.words.WordTwo.TheVariants.{Msg, Confirm, RequestPublic, RequestSecret, RecipientStanza, FileKey, Error, Other, Done}
use Rattle.phase_one.specs.Commands.{recipient_stanza_text, done_word}
use Rattle.conversation.specs.CommandsTwo as command
use Rattle.conversation.specs.CommandsTwo.{CommandTwo, ask, stanza, key, error, done, other, bad, are_labels, stanza_at, key_at, error_at, header_at, error_of, error_command, row_two, work_word, word_two, command_two, msg_word, confirm_word, request_public, request_secret, file_key_word, error_word, internal_word, identity_word, recipient_word, stanza_word}
use Rattle.conversation.specs.Phases.{All}
use Rattle.conversation.specs.Numbers.{Question, message, confirmation, public_value, secret_value, Naming, internal, identity, recipient, header, SayingTwo, asks, returns_stanza, returns_key, reports, ends_two, Labels, one_label, two_labels, RowTwo, returning_word, OneOf, KnownTwo, indices_two, written_two, Small, IsIndex, SaysTwo, Wrong, Misindexed}

-- the command of what is said, its indices as texts
abbrev pub command_of : SayingTwo (List ℕ) → CommandTwo
command_of (asks message) = ask Msg
command_of (asks confirmation) = ask Confirm
command_of (asks public_value) = ask RequestPublic
command_of (asks secret_value) = ask RequestSecret
command_of (returns_stanza f) = stanza_at (read_index f)
command_of (returns_key f) = key_at (read_index f)
command_of (reports internal) = error command.internal
command_of (reports (identity i)) = error_at command.identity (read_index i)
command_of (reports (recipient i)) = error_at command.recipient (read_index i)
command_of (reports (header f i)) = header_at (read_index f) (read_index i)
command_of ends_two = done

pub three_more : (a b c : List ℕ) (more : List (List ℕ)) → leb 3 (length (a ∷ b ∷ c ∷ more)) ≡ true
three_more a b c more = le-leb 3 (length (a ∷ b ∷ c ∷ more)) (omega arith)

-- a row is read as its command
module _ (line body : List ℕ) where
  at_word : (machine : Machine) (ws : List (List ℕ)) → words line ≡ ws → command_two machine line body ≡ row_two (word_two machine (get_or ws 0 [])) machine line (length body)
  unfolding command_two
  at_word machine ws h = ap (λ v. row_two (word_two machine (get_or v 0 [])) machine line (length body)) h

  labels_command : (machine : Machine) → Labels (words line) → command_two machine line body ≡ ask Confirm
  unfolding same
  labels_command machine (one_label a h e) = at_word machine (confirm_word ∷ a ∷ []) h ∙ rw (h, e)
  labels_command machine (two_labels a b h e g) = at_word machine (confirm_word ∷ a ∷ b ∷ []) h ∙ rw (h, e, g)

  row_command_lem : (machine : Machine) (x : SayingTwo (List ℕ)) → RowTwo machine (words line) body x → command_two machine line body ≡ command_of x
  unfolding same
  row_command_lem machine (asks message) h = at_word machine (msg_word ∷ []) h ∙ rw h
  row_command_lem machine (asks confirmation) h = labels_command machine h
  row_command_lem machine (asks public_value) h = at_word machine (request_public ∷ []) h ∙ rw h
  row_command_lem machine (asks secret_value) h = at_word machine (request_secret ∷ []) h ∙ rw h
  row_command_lem RecipientV1 (returns_stanza f) h =
      let ws = recipient_stanza_text ∷ f ∷ h.1.0 ∷ h.1.1 in at_word RecipientV1 ws h.1.2 ∙ rw (h.1.2, three_more recipient_stanza_text f h.1.0 h.1.1)
  row_command_lem IdentityV1 (returns_stanza f) h = let e = h.0 in let z : ◌≡◌ {A = ℕ} 0 1 = cc in absurd (omega arith)
  row_command_lem RecipientV1 (returns_key f) h = let e = h.0 in let z : ◌≡◌ {A = ℕ} 0 1 = cc in absurd (omega arith)
  row_command_lem IdentityV1 (returns_key f) h = at_word IdentityV1 (file_key_word ∷ f ∷ []) h.1 ∙ rw (h.1, h.2)
  row_command_lem machine (reports internal) h = at_word machine (error_word ∷ internal_word ∷ []) h ∙ rw h
  row_command_lem machine (reports (identity i)) h = at_word machine (error_word ∷ identity_word ∷ i ∷ []) h ∙ rw h
  row_command_lem RecipientV1 (reports (recipient i)) h = at_word RecipientV1 (error_word ∷ recipient_word ∷ i ∷ []) h.1 ∙ rw h.1
  row_command_lem IdentityV1 (reports (recipient i)) h = let e = h.0 in let z : ◌≡◌ {A = ℕ} 0 1 = cc in absurd (omega arith)
  row_command_lem RecipientV1 (reports (header f i)) h = let e = h.0 in let z : ◌≡◌ {A = ℕ} 0 1 = cc in absurd (omega arith)
  row_command_lem IdentityV1 (reports (header f i)) h = at_word IdentityV1 (error_word ∷ stanza_word ∷ f ∷ i ∷ []) h.1 ∙ rw h.1
  row_command_lem machine ends_two h = at_word machine (done_word ∷ []) h.0 ∙ rw (h.0, h.1)

-- ---- words taken apart

pub one_word_laws : (ws : List (List ℕ)) → length ws ≡ 1 → ws ≡ get_or ws 0 [] ∷ []
one_word_laws [] h = absurd (omega arith)
one_word_laws (a ∷ []) h = refl
one_word_laws (a ∷ b ∷ ws) h = absurd (omega arith)

pub two_words_laws : (ws : List (List ℕ)) → length ws ≡ 2 → ws ≡ get_or ws 0 [] ∷ get_or ws 1 [] ∷ []
two_words_laws [] h = absurd (omega arith)
two_words_laws (a ∷ ws) h = ap (λ v. a ∷ v) (one_word_laws ws (omega arith))

words_three : (ws : List (List ℕ)) → length ws ≡ 3 → ws ≡ get_or ws 0 [] ∷ get_or ws 1 [] ∷ get_or ws 2 [] ∷ []
words_three [] h = absurd (omega arith)
words_three (a ∷ ws) h = ap (λ v. a ∷ v) (two_words_laws ws (omega arith))

words_four : (ws : List (List ℕ)) → length ws ≡ 4 → ws ≡ get_or ws 0 [] ∷ get_or ws 1 [] ∷ get_or ws 2 [] ∷ get_or ws 3 [] ∷ []
words_four [] h = absurd (omega arith)
words_four (a ∷ ws) h = ap (λ v. a ∷ v) (words_three ws (omega arith))

pub words_more : (ws : List (List ℕ)) → 3 ≤ length ws → (tag : List ℕ) × (more : List (List ℕ)) × (ws ≡ get_or ws 0 [] ∷ get_or ws 1 [] ∷ tag ∷ more)
words_more [] h = absurd (omega arith)
words_more (a ∷ []) h = absurd (omega arith)
words_more (a ∷ b ∷ []) h = absurd (omega arith)
words_more (a ∷ b ∷ c ∷ ws) h = (c, ws, refl)

pub no_bytes : (body : List ℕ) → length body ≡ 0 → body ≡ []
no_bytes [] h = refl
no_bytes (b ∷ t) h = absurd (omega arith)

-- ---- what a command is read from: no word of the table, no row of it, or a row

data ReadTwo (machine : Machine) (line body : List ℕ) : CommandTwo → Type 0 where
  unknown : (KnownTwo machine line → ⊥) → ReadTwo machine line body other
  wrong : KnownTwo machine line → ReadTwo machine line body (bad 4)
  as_row : (x : SayingTwo (List ℕ)) → RowTwo machine (words line) body x → ReadTwo machine line body (command_of x)

module _ (machine : Machine) (line body : List ℕ) where
  abbrev word : List ℕ
  word = argument_of line 0

  abbrev Read : CommandTwo → Type 0
  Read c = ReadTwo machine line body c

  abbrev row_of : WordTwo → CommandTwo
  row_of w = row_two w machine line (length body)

  either : {f : Bool} {c d : CommandTwo} → (f ≡ true → Read c) → (f ≡ false → Read d) → Read (pick f c d)
  either {f = true} p q = p refl
  either {f = false} p q = q refl

  by_word : (f : Bool) (v u : WordTwo) → (f ≡ true → Read (row_of v)) → (f ≡ false → Read (row_of u)) → Read (row_of (pick f v u))
  by_word true v u p q = p refl
  by_word false v u p q = q refl

  -- a word alone
  alone : (v : List ℕ) → word ≡ v → eqb (count_of line) 1 ≡ true → words line ≡ v ∷ []
  alone v e f = one_word_laws (words line) (eqb-true (count_of line) 1 f) ∙ ap (λ w. w ∷ []) e

  count : (n : ℕ) (a : Bool) → (a && eqb (count_of line) n) ≡ true → (a ≡ true) × (count_of line ≡ n)
  count n a f = let h = and_true a (eqb (count_of line) n) f in (h.0, eqb-true (count_of line) n h.1)

  msg_row : word ≡ msg_word → Read (row_of Msg)
  unfolding OneOf
  msg_row e = either (λ f. as_row (asks message) (alone msg_word e f)) (λ f. wrong (inl e))

  public_row : word ≡ request_public → Read (row_of RequestPublic)
  unfolding OneOf
  public_row e = either (λ f. as_row (asks public_value) (alone request_public e f)) (λ f. wrong (inr (inr (inl e))))

  secret_row : word ≡ request_secret → Read (row_of RequestSecret)
  unfolding OneOf
  secret_row e = either (λ f. as_row (asks secret_value) (alone request_secret e f)) (λ f. wrong (inr (inr (inr (inl e)))))

  done_row : word ≡ done_word → Read (row_of Done)
  unfolding OneOf
  done_row e =
      either (λ f. let h = and_true (eqb (count_of line) 1) (eqb (length body) 0) f in as_row ends_two (alone done_word e h.0, no_bytes body (eqb-true (length body) 0 h.1)))
      (λ f. wrong (inr (inr (inr (inr (inr (inr (inl e))))))))

  -- one label or two
  labels_row : word ≡ confirm_word → are_labels line ≡ true → Labels (words line)
  labels_row e f =
      let h = and_true (is_base64 (argument_of line 1)) (eqb (count_of line) 2 || eqb (count_of line) 3 && is_base64 (argument_of line 2)) f in
      cases (eqb (count_of line) 2)
      (λ g. one_label (argument_of line 1) (two_words_laws (words line) (eqb-true (count_of line) 2 g) ∙ ap (λ w. w ∷ argument_of line 1 ∷ []) e) h.0)
      (λ g. let i = and_true (eqb (count_of line) 3) (is_base64 (argument_of line 2)) (rw g at h.1) in
      two_labels (argument_of line 1) (argument_of line 2) (words_three (words line) (eqb-true (count_of line) 3 i.0) ∙ ap (λ w. w ∷ argument_of line 1 ∷ argument_of line 2 ∷ []) e) h.0 i.1)

  confirm_row : word ≡ confirm_word → Read (row_of Confirm)
  unfolding OneOf
  confirm_row e = either (λ f. as_row (asks confirmation) (labels_row e f)) (λ f. wrong (inr (inl e)))

  error_known : word ≡ error_word → KnownTwo machine line
  unfolding OneOf
  error_known e = inr (inr (inr (inr (inr (inl e)))))

  internal_row : word ≡ error_word → (same (argument_of line 1) internal_word && eqb (count_of line) 2) ≡ true → Read (error command.internal)
  internal_row e f =
      let h = count 2 (same (argument_of line 1) internal_word) f in
      as_row (reports internal) (two_words_laws (words line) h.1 ∙ ap₂ (λ w v. w ∷ v ∷ []) e (same_eq (argument_of line 1) internal_word h.0))

  identity_row : word ≡ error_word → (same (argument_of line 1) identity_word && eqb (count_of line) 3) ≡ true → Read (error_at command.identity (read_index (argument_of line 2)))
  identity_row e f =
      let h = count 3 (same (argument_of line 1) identity_word) f in
      as_row (reports (identity (argument_of line 2))) (words_three (words line) h.1 ∙ ap₂ (λ w v. w ∷ v ∷ argument_of line 2 ∷ []) e (same_eq (argument_of line 1) identity_word h.0))

-- what is for one machine alone
module _ (line body : List ℕ) where
  error_rest : (machine : Machine) → argument_of line 0 ≡ error_word → ReadTwo machine line body (error_of machine line)
  error_rest RecipientV1 e =
      either RecipientV1 line body
      (λ f. let h = count RecipientV1 line body 3 (same (argument_of line 1) recipient_word) f in
      as_row (reports (recipient (argument_of line 2))) (refl, words_three (words line) h.1 ∙ ap₂ (λ w v. w ∷ v ∷ argument_of line 2 ∷ []) e (same_eq (argument_of line 1) recipient_word h.0)))
      (λ f. wrong (error_known RecipientV1 line body e))
  error_rest IdentityV1 e =
      either IdentityV1 line body
      (λ f. let h = count IdentityV1 line body 4 (same (argument_of line 1) stanza_word) f in
      as_row (reports (header (argument_of line 2) (argument_of line 3))) (refl, words_four (words line) h.1 ∙ ap₂ (λ w v. w ∷ v ∷ argument_of line 2 ∷ argument_of line 3 ∷ []) e (same_eq (argument_of line 1) stanza_word h.0)))
      (λ f. wrong (error_known IdentityV1 line body e))

  error_row : (machine : Machine) → argument_of line 0 ≡ error_word → ReadTwo machine line body (error_command machine line)
  error_row machine e = either machine line body (internal_row machine line body e) (λ f. either machine line body (identity_row machine line body e) (λ g. error_rest machine e))

  stanza_row : argument_of line 0 ≡ recipient_stanza_text → ReadTwo RecipientV1 line body (row_two RecipientStanza RecipientV1 line (length body))
  unfolding OneOf
  stanza_row e =
      either RecipientV1 line body
      (λ f. let m = words_more (words line) (leb-true 3 (count_of line) f) in
      as_row (returns_stanza (argument_of line 1)) (refl, (m.0, m.1, m.2 ∙ ap (λ w. w ∷ argument_of line 1 ∷ m.0 ∷ m.1) e)))
      (λ f. wrong (inr (inr (inr (inr (inl e))))))

  key_row : argument_of line 0 ≡ file_key_word → ReadTwo IdentityV1 line body (row_two FileKey IdentityV1 line (length body))
  unfolding OneOf
  key_row e =
      either IdentityV1 line body
      (λ f. let h = and_true (eqb (count_of line) 2) (eqb (length body) 16) f in
      as_row (returns_key (argument_of line 1)) (refl, two_words_laws (words line) (eqb-true (count_of line) 2 h.0) ∙ ap (λ w. w ∷ argument_of line 1 ∷ []) e, eqb-true (length body) 16 h.1))
      (λ f. wrong (inr (inr (inr (inr (inl e))))))

  -- a word that is another
  apart : (v : List ℕ) → same (argument_of line 0) v ≡ false → argument_of line 0 ≡ v → ⊥
  apart v f e = true≢false (sym (same_refl v) ∙ ap (λ w. same w v) (sym e) ∙ f)

  -- the word that each machine has for itself; else any other
  work_row : (machine : Machine) → ((argument_of line 0 ≡ returning_word machine → ⊥) → KnownTwo machine line → ⊥) →
      ReadTwo machine line body (row_two (work_word machine (argument_of line 0)) machine line (length body))
  work_row RecipientV1 none =
      by_word RecipientV1 line body (same (argument_of line 0) recipient_stanza_text) RecipientStanza Other (λ f. stanza_row (same_eq (argument_of line 0) recipient_stanza_text f)) (λ f. unknown (none (apart recipient_stanza_text f)))
  work_row IdentityV1 none = by_word IdentityV1 line body (same (argument_of line 0) file_key_word) FileKey Other (λ f. key_row (same_eq (argument_of line 0) file_key_word f)) (λ f. unknown (none (apart file_key_word f)))

  read_two : (machine : Machine) → ReadTwo machine line body (command_two machine line body)
  unfolding command_two OneOf
  read_two machine =
      let w = argument_of line 0 in
      let last = work_word machine w in
      let fourth = pick (same w error_word) Error (pick (same w done_word) Done last) in
      let third = pick (same w request_secret) RequestSecret fourth in
      let second = pick (same w request_public) RequestPublic third in
      let first = pick (same w confirm_word) Confirm second in
      by_word machine line body (same w msg_word) Msg first (λ f. msg_row machine line body (same_eq w msg_word f)) (λ f1.
      by_word machine line body (same w confirm_word) Confirm second (λ f. confirm_row machine line body (same_eq w confirm_word f)) (λ f2.
      by_word machine line body (same w request_public) RequestPublic third (λ f. public_row machine line body (same_eq w request_public f)) (λ f3.
      by_word machine line body (same w request_secret) RequestSecret fourth (λ f. secret_row machine line body (same_eq w request_secret f)) (λ f4.
      by_word machine line body (same w error_word) Error (pick (same w done_word) Done last) (λ f. error_row machine (same_eq w error_word f)) (λ f5.
      by_word machine line body (same w done_word) Done last (λ f. done_row machine line body (same_eq w done_word f)) (λ f6.
      work_row machine (λ f7.
      ⊎_elim (apart msg_word f1) (⊎_elim (apart confirm_word f2) (⊎_elim (apart request_public f3) (⊎_elim (apart request_secret f4) (⊎_elim f7 (⊎_elim (apart error_word f5) (⊎_elim (apart done_word f6) (λ z. z))))))))))))))

-- ---- what is said, by the command

-- by what an index was read as
pub by_index : (P : ReadIndex → Type 0) (t : List ℕ) → ((i : ℕ) → Small i → t ≡ decimal i → P (number i)) → ((IsIndex t → ⊥) → P (refused 5)) → P (read_index t)
by_index P t f g =
    ⊎_elim (λ j. let h = read_number t _ j.1 in subst P (sym j.1) (f _ h.1 h.0))
    (λ e. subst P (sym e) (g (λ j. let z : number j.0 ≡ refused 5 = sym (ap read_index j.2 ∙ read_decimal j.0 j.1) ∙ e in let y : ◌≡◌ {A = ℕ} 0 1 = cc in omega arith))) (read_index_lem t)

-- the command of what is said, its indices as numbers
abbrev pub command_said : SayingTwo ℕ → CommandTwo
command_said (asks message) = ask Msg
command_said (asks confirmation) = ask Confirm
command_said (asks public_value) = ask RequestPublic
command_said (asks secret_value) = ask RequestSecret
command_said (returns_stanza f) = stanza f
command_said (returns_key f) = key f
command_said (reports internal) = error command.internal
command_said (reports (identity i)) = error (command.identity i)
command_said (reports (recipient i)) = error (command.recipient i)
command_said (reports (header f i)) = error (command.header f i)
command_said ends_two = done

said_as : (x : SayingTwo ℕ) → All Small (indices_two x) → command_of (written_two x) ≡ command_said x
unfolding All
said_as (asks message) a = refl
said_as (asks confirmation) a = refl
said_as (asks public_value) a = refl
said_as (asks secret_value) a = refl
said_as (returns_stanza f) a = ap stanza_at (read_decimal f a.0)
said_as (returns_key f) a = ap key_at (read_decimal f a.0)
said_as (reports internal) a = refl
said_as (reports (identity i)) a = ap (error_at command.identity) (read_decimal i a.0)
said_as (reports (recipient i)) a = ap (error_at command.recipient) (read_decimal i a.0)
said_as (reports (header f i)) a = ap₂ header_at (read_decimal f a.0) (read_decimal i a.1.0)
said_as ends_two a = refl

-- what an error names
abbrev pub naming_of : command.Named → Naming ℕ
naming_of command.internal = internal
naming_of (command.identity i) = identity i
naming_of (command.recipient i) = recipient i
naming_of (command.header f i) = header f i

module _ (machine : Machine) (line body : List ℕ) where
  abbrev Says : SayingTwo ℕ → Type 0
  Says x = SaysTwo machine line body x

  -- what a command was said by
  abbrev pub SaidTwo : CommandTwo → Type 0
  SaidTwo (ask w) = (q : Question) × Says (asks q)
  SaidTwo (stanza f) = Says (returns_stanza f)
  SaidTwo (key f) = Says (returns_key f)
  SaidTwo (error n) = Says (reports (naming_of n))
  SaidTwo done = Says ends_two
  SaidTwo other = KnownTwo machine line → ⊥
  SaidTwo (bad n) = ((n ≡ 4) × Wrong (KnownTwo machine line) (RowTwo machine (words line) body)) ⊎ ((n ≡ 5) × Misindexed (RowTwo machine (words line) body) indices_two)

  abbrev Row : SayingTwo (List ℕ) → Type 0
  Row x = RowTwo machine (words line) body x

  -- of a row
  said_row : (x : SayingTwo (List ℕ)) → Row x → SaidTwo (command_of x)
  unfolding All
  said_row (asks message) h = (message, record { row = h; small = tt })
  said_row (asks confirmation) h = (confirmation, record { row = h; small = tt })
  said_row (asks public_value) h = (public_value, record { row = h; small = tt })
  said_row (asks secret_value) h = (secret_value, record { row = h; small = tt })
  said_row (returns_stanza t) h =
      by_index (λ j. SaidTwo (stanza_at j)) t (λ i l e. record { row = subst (λ t. Row (returns_stanza t)) e h; small = (l, tt) }) (λ n. inr (refl, (returns_stanza t, h, λ a. n a.0)))
  said_row (returns_key t) h = by_index (λ j. SaidTwo (key_at j)) t (λ i l e. record { row = subst (λ t. Row (returns_key t)) e h; small = (l, tt) }) (λ n. inr (refl, (returns_key t, h, λ a. n a.0)))
  said_row (reports internal) h = record { row = h; small = tt }
  said_row (reports (identity t)) h =
      by_index (λ j. SaidTwo (error_at command.identity j)) t (λ i l e. record { row = subst (λ t. Row (reports (identity t))) e h; small = (l, tt) }) (λ n. inr (refl, (reports (identity t), h, λ a. n a.0)))
  said_row (reports (recipient t)) h =
      by_index (λ j. SaidTwo (error_at command.recipient j)) t (λ i l e. record { row = subst (λ t. Row (reports (recipient t))) e h; small = (l, tt) }) (λ n. inr (refl, (reports (recipient t), h, λ a. n a.0)))
  said_row (reports (header t u)) h =
      by_index (λ j. SaidTwo (header_at j (read_index u))) t
      (λ f l e. by_index (λ j. SaidTwo (header_at (number f) j)) u
      (λ i m g. record { row = subst (λ u. Row (reports (header (decimal f) u))) g (subst (λ t. Row (reports (header t u))) e h); small = (l, (m, tt)) })
      (λ n. inr (refl, (reports (header t u), h, λ a. n a.1.0))))
      (λ n. inr (refl, (reports (header t u), h, λ a. n a.0)))
  said_row ends_two h = record { row = h; small = tt }

  -- no row has the number 4
  right_row : (x : SayingTwo (List ℕ)) → command_of x ≡ bad 4 → ⊥
  right_row (asks message) e = let z : ◌≡◌ {A = ℕ} 0 1 = cc in omega arith
  right_row (asks confirmation) e = let z : ◌≡◌ {A = ℕ} 0 1 = cc in omega arith
  right_row (asks public_value) e = let z : ◌≡◌ {A = ℕ} 0 1 = cc in omega arith
  right_row (asks secret_value) e = let z : ◌≡◌ {A = ℕ} 0 1 = cc in omega arith
  right_row (returns_stanza t) e = by_index (λ j. stanza_at j ≡ bad 4 → ⊥) t (λ i l q e. let z : ◌≡◌ {A = ℕ} 0 1 = cc in omega arith) (λ n e. let z : ◌≡◌ {A = ℕ} 5 4 = cc in omega arith) e
  right_row (returns_key t) e = by_index (λ j. key_at j ≡ bad 4 → ⊥) t (λ i l q e. let z : ◌≡◌ {A = ℕ} 0 1 = cc in omega arith) (λ n e. let z : ◌≡◌ {A = ℕ} 5 4 = cc in omega arith) e
  right_row (reports internal) e = let z : ◌≡◌ {A = ℕ} 0 1 = cc in omega arith
  right_row (reports (identity t)) e = by_index (λ j. error_at command.identity j ≡ bad 4 → ⊥) t (λ i l q e. let z : ◌≡◌ {A = ℕ} 0 1 = cc in omega arith) (λ n e. let z : ◌≡◌ {A = ℕ} 5 4 = cc in omega arith) e
  right_row (reports (recipient t)) e = by_index (λ j. error_at command.recipient j ≡ bad 4 → ⊥) t (λ i l q e. let z : ◌≡◌ {A = ℕ} 0 1 = cc in omega arith) (λ n e. let z : ◌≡◌ {A = ℕ} 5 4 = cc in omega arith) e
  right_row (reports (header t u)) e =
      by_index (λ j. header_at j (read_index u) ≡ bad 4 → ⊥) t
      (λ f l q. by_index (λ j. header_at (number f) j ≡ bad 4 → ⊥) u (λ i l q e. let z : ◌≡◌ {A = ℕ} 0 1 = cc in omega arith) (λ n e. let z : ◌≡◌ {A = ℕ} 5 4 = cc in omega arith)) (λ n e. let z : ◌≡◌ {A = ℕ} 5 4 = cc in omega arith) e
  right_row ends_two e = let z : ◌≡◌ {A = ℕ} 0 1 = cc in omega arith

  pub said_two : SaidTwo (command_two machine line body)
  said_two = go (command_two machine line body) refl (read_two line body machine)
    where
      go : (c : CommandTwo) → command_two machine line body ≡ c → ReadTwo machine line body c → SaidTwo c
      go c e (unknown n) = n
      go c e (wrong k) = inl (refl, (k, λ x h. right_row x (sym (row_command_lem line body machine x h) ∙ e)))
      go c e (as_row x h) = said_row x h

  -- and back
  pub says_command : (x : SayingTwo ℕ) → Says x → command_two machine line body ≡ command_said x
  says_command x h = row_command_lem line body machine (written_two x) h.row ∙ said_as x h.small

  -- a row whose texts are not all indices
  pub misindexed_command : Misindexed Row indices_two → command_two machine line body ≡ bad 5
  unfolding All
  misindexed_command (x, h, n) = row_command_lem line body machine x h ∙ bad_row x n
    where
      bad_row : (x : SayingTwo (List ℕ)) → (All IsIndex (indices_two x) → ⊥) → command_of x ≡ bad 5
      bad_row (asks message) n = absurd (n tt)
      bad_row (asks confirmation) n = absurd (n tt)
      bad_row (asks public_value) n = absurd (n tt)
      bad_row (asks secret_value) n = absurd (n tt)
      bad_row (returns_stanza t) n = by_index (λ j. stanza_at j ≡ bad 5) t (λ i l e. absurd (n ((i, l, e), tt))) (λ m. refl)
      bad_row (returns_key t) n = by_index (λ j. key_at j ≡ bad 5) t (λ i l e. absurd (n ((i, l, e), tt))) (λ m. refl)
      bad_row (reports internal) n = absurd (n tt)
      bad_row (reports (identity t)) n = by_index (λ j. error_at command.identity j ≡ bad 5) t (λ i l e. absurd (n ((i, l, e), tt))) (λ m. refl)
      bad_row (reports (recipient t)) n = by_index (λ j. error_at command.recipient j ≡ bad 5) t (λ i l e. absurd (n ((i, l, e), tt))) (λ m. refl)
      bad_row (reports (header t u)) n =
          by_index (λ j. header_at j (read_index u) ≡ bad 5) t (λ f l e. by_index (λ j. header_at (number f) j ≡ bad 5) u (λ i m g. absurd (n ((f, l, e), ((i, m, g), tt)))) (λ m. refl)) (λ m. refl)
      bad_row ends_two n = absurd (n tt)

  -- a word of the table and no row
  pub wrong_command : Wrong (KnownTwo machine line) Row → command_two machine line body ≡ bad 4
  wrong_command w = go (command_two machine line body) refl (read_two line body machine)
    where
      go : (c : CommandTwo) → command_two machine line body ≡ c → ReadTwo machine line body c → c ≡ bad 4
      go c e (unknown n) = absurd (n w.0)
      go c e (wrong k) = refl
      go c e (as_row x h) = absurd (w.1 x h)

  -- a row's word is one of the table
  first_word : (v : List ℕ) (ws : List (List ℕ)) → words line ≡ v ∷ ws → argument_of line 0 ≡ v
  first_word v ws e = ap (λ w. get_or w 0 []) e

  labels_known : Labels (words line) → KnownTwo machine line
  unfolding OneOf
  labels_known (one_label a e f) = inr (inl (first_word confirm_word (a ∷ []) e))
  labels_known (two_labels a b e f g) = inr (inl (first_word confirm_word (a ∷ b ∷ []) e))

  row_known : (x : SayingTwo (List ℕ)) → Row x → KnownTwo machine line
  unfolding OneOf
  row_known (asks message) h = inl (first_word msg_word [] h)
  row_known (asks confirmation) h = labels_known h
  row_known (asks public_value) h = inr (inr (inl (first_word request_public [] h)))
  row_known (asks secret_value) h = inr (inr (inr (inl (first_word request_secret [] h))))
  row_known (returns_stanza f) h = inr (inr (inr (inr (inl (first_word recipient_stanza_text _ h.1.2 ∙ ap returning_word (sym h.0))))))
  row_known (returns_key f) h = inr (inr (inr (inr (inl (first_word file_key_word _ h.1 ∙ ap returning_word (sym h.0))))))
  row_known (reports internal) h = inr (inr (inr (inr (inr (inl (first_word error_word _ h))))))
  row_known (reports (identity i)) h = inr (inr (inr (inr (inr (inl (first_word error_word _ h))))))
  row_known (reports (recipient i)) h = inr (inr (inr (inr (inr (inl (first_word error_word _ h.1))))))
  row_known (reports (header f i)) h = inr (inr (inr (inr (inr (inl (first_word error_word _ h.1))))))
  row_known ends_two h = inr (inr (inr (inr (inr (inr (inl (first_word done_word [] h.0)))))))

  -- no word of the table
  pub unknown_command : (KnownTwo machine line → ⊥) → command_two machine line body ≡ other
  unknown_command u = go (command_two machine line body) (read_two line body machine)
    where
      go : (c : CommandTwo) → ReadTwo machine line body c → c ≡ other
      go c (unknown n) = refl
      go c (wrong k) = absurd (u k)
      go c (as_row x h) = absurd (u (row_known x h))
