-- The command that an arguments' text and a body are read as, by the rows of phase one's table.
use Prim.Native.Nat.{ℕ}
use mathlib.Core.Path.{◌≡◌, refl, sym, ap, ◌∙◌, subst}
use mathlib.Core.Bool.{Bool, true, false, ◌&&◌, true≢false}
use mathlib.Core.Logic.{◌⊎◌, inl, inr, ⊎_elim}
use mathlib.Core.List.{List, [], ◌∷◌}
use lib.Dec.{leb, eqb}
use lib.ListN.{length, get_or}
use native.Mathlib.Omega.{arith}
use borrow.Author.Tests.{eqb-true, leb-true}
use Rattle.refusal.specs.Pick.{pick}
use Rattle.refusal.specs.Same.{same}
use Rattle.refusal.proofs.Laws.Booleans.{and_true}
use Rattle.refusal.proofs.Laws.Same.{same_refl, same_eq}
use Rattle.stanza.specs.Arguments.{words, count_of, argument_of}
use Rattle.stanza.specs.Index.{read_index, decimal}
use Rattle.stanza.proofs.Laws.Index.{read_decimal}
use Rattle.bech32.specs.Text.{parse}
use Rattle.bech32.specs.Calls.{form_of, mark_of}
use Rattle.bech32.specs.declared.TextKind.TheVariants as the_kind
use Rattle.session.specs.declared.opening.Machine.{Machine}
use Rattle.session.specs.declared.opening.Machine.TheVariants.{RecipientV1, IdentityV1}
use Rattle.phase_one.specs.Commands.{WordOne, add_recipient, add_identity, wrap_file_key, recipient_stanza, done_command, other_word, add_recipient_text, add_identity_text, wrap_file_key_text, recipient_stanza_text, done_word, word_in, CommandOne, recipient, identity, key, header, done, other, bad, indexed, header_mark, is_bare, row_command}
use Rattle.phase_one.specs.PhaseOne.{command_in}
use Rattle.conversation.specs.Phases.{All}
use Rattle.conversation.specs.Numbers.{SayingOne, adds_recipient, adds_identity, wraps_key, brings_stanza, ends_one, RowOne, OneOf, KnownOne, indices_one, IsIndex, SaysOne, Wrong, Misindexed}
use Rattle.conversation.proofs.Laws.RowsTwo.{one_word_laws, two_words_laws, words_more, no_bytes, by_index, three_more}

module _ (name line body : List ℕ) where
  -- the command of what is said, its index as a text
  abbrev command_of : SayingOne (List ℕ) → CommandOne
  command_of (adds_recipient a) = recipient (mark_of (parse (form_of the_kind.Recipient) a) name)
  command_of (adds_identity a) = identity (mark_of (parse (form_of the_kind.Identity) a) name)
  command_of wraps_key = key
  command_of (brings_stanza t) = indexed (read_index t) (header_mark name line (length body))
  command_of ends_one = done

  at_word : (machine : Machine) (ws : List (List ℕ)) → words line ≡ ws → command_in machine name line body ≡ row_command (word_in machine (get_or ws 0 [])) name line (length body)
  at_word machine ws h = ap (λ v. row_command (word_in machine (get_or v 0 [])) name line (length body)) h

  -- a row is read as its command
  row_command_lem : (machine : Machine) (x : SayingOne (List ℕ)) → RowOne machine (words line) body x → command_in machine name line body ≡ command_of x
  unfolding same
  row_command_lem RecipientV1 (adds_recipient a) h = at_word RecipientV1 (add_recipient_text ∷ a ∷ []) h.1 ∙ rw (h.1, h.2)
  row_command_lem IdentityV1 (adds_recipient a) h = let e = h.0 in let z : ◌≡◌ {A = ℕ} 0 1 = cc in absurd (omega arith)
  row_command_lem RecipientV1 (adds_identity a) h = at_word RecipientV1 (add_identity_text ∷ a ∷ []) h.0 ∙ rw (h.0, h.1)
  row_command_lem IdentityV1 (adds_identity a) h = at_word IdentityV1 (add_identity_text ∷ a ∷ []) h.0 ∙ rw (h.0, h.1)
  row_command_lem RecipientV1 wraps_key h = at_word RecipientV1 (wrap_file_key_text ∷ []) h.1 ∙ rw (h.1, h.2)
  row_command_lem IdentityV1 wraps_key h = let e = h.0 in let z : ◌≡◌ {A = ℕ} 0 1 = cc in absurd (omega arith)
  row_command_lem RecipientV1 (brings_stanza t) h = let e = h.0 in let z : ◌≡◌ {A = ℕ} 0 1 = cc in absurd (omega arith)
  row_command_lem IdentityV1 (brings_stanza t) h =
      let ws = recipient_stanza_text ∷ t ∷ h.1.0 ∷ h.1.1 in
      at_word IdentityV1 ws h.1.2
      ∙ ap (λ v. pick (leb 3 (length v)) (indexed (read_index (get_or v 1 [])) (header_mark name line (length body))) (bad 4)) h.1.2
      ∙ rw (three_more recipient_stanza_text t h.1.0 h.1.1)
  row_command_lem RecipientV1 ends_one h = at_word RecipientV1 (done_word ∷ []) h.0 ∙ rw (h.0, h.1)
  row_command_lem IdentityV1 ends_one h = at_word IdentityV1 (done_word ∷ []) h.0 ∙ rw (h.0, h.1)

-- ---- what a command is read from: no word of the table, no row of it, or a row

data ReadOne (machine : Machine) (name line body : List ℕ) : CommandOne → Type 0 where
  unknown : (KnownOne machine line → ⊥) → ReadOne machine name line body other
  wrong : KnownOne machine line → ReadOne machine name line body (bad 4)
  as_row : (x : SayingOne (List ℕ)) → RowOne machine (words line) body x → ReadOne machine name line body (command_of name line body x)

module _ (machine : Machine) (name line body : List ℕ) where
  abbrev word : List ℕ
  word = argument_of line 0

  abbrev Read : CommandOne → Type 0
  Read c = ReadOne machine name line body c

  abbrev row_of : WordOne → CommandOne
  row_of w = row_command w name line (length body)

  either : {f : Bool} {c d : CommandOne} → (f ≡ true → Read c) → (f ≡ false → Read d) → Read (pick f c d)
  either {f = true} p q = p refl
  either {f = false} p q = q refl

  by_word : (f : Bool) (v u : WordOne) → (f ≡ true → Read (row_of v)) → (f ≡ false → Read (row_of u)) → Read (row_of (pick f v u))
  by_word true v u p q = p refl
  by_word false v u p q = q refl

  -- one argument and no body
  argued : (v : List ℕ) → word ≡ v → (eqb (count_of line) 2 && eqb (length body) 0) ≡ true → (words line ≡ v ∷ argument_of line 1 ∷ []) × (body ≡ [])
  argued v e f =
      let h = and_true (eqb (count_of line) 2) (eqb (length body) 0) f in
      (two_words_laws (words line) (eqb-true (count_of line) 2 h.0) ∙ ap (λ w. w ∷ argument_of line 1 ∷ []) e, no_bytes body (eqb-true (length body) 0 h.1))

  -- no argument
  bare : (v : List ℕ) (n : ℕ) → word ≡ v → is_bare line (length body) n ≡ true → (words line ≡ v ∷ []) × (length body ≡ n)
  bare v n e f =
      let h = and_true (eqb (count_of line) 1) (eqb (length body) n) f in
      (one_word_laws (words line) (eqb-true (count_of line) 1 h.0) ∙ ap (λ w. w ∷ []) e, eqb-true (length body) n h.1)

  identity_row : KnownOne machine line → word ≡ add_identity_text → Read (row_of add_identity)
  identity_row k e = either (λ f. as_row (adds_identity (argument_of line 1)) (argued add_identity_text e f)) (λ f. wrong k)

  done_row : KnownOne machine line → word ≡ done_word → Read (row_of done_command)
  done_row k e = either (λ f. let h = bare done_word 0 e f in as_row ends_one (h.0, no_bytes body h.1)) (λ f. wrong k)

  -- a word that is another
  apart : (v : List ℕ) → same word v ≡ false → word ≡ v → ⊥
  apart v f e = true≢false (sym (same_refl v) ∙ ap (λ w. same w v) (sym e) ∙ f)

module _ (name line body : List ℕ) where
  recipient_row : argument_of line 0 ≡ add_recipient_text → ReadOne RecipientV1 name line body (row_command add_recipient name line (length body))
  unfolding OneOf
  recipient_row e =
      either RecipientV1 name line body (λ f. let h = argued RecipientV1 name line body add_recipient_text e f in as_row (adds_recipient (argument_of line 1)) (refl, h.0, h.1)) (λ f. wrong (inl e))

  key_row : argument_of line 0 ≡ wrap_file_key_text → ReadOne RecipientV1 name line body (row_command wrap_file_key name line (length body))
  unfolding OneOf
  key_row e = either RecipientV1 name line body (λ f. let h = bare RecipientV1 name line body wrap_file_key_text 16 e f in as_row wraps_key (refl, h.0, h.1)) (λ f. wrong (inr (inr (inl e))))

  stanza_row : argument_of line 0 ≡ recipient_stanza_text → ReadOne IdentityV1 name line body (row_command recipient_stanza name line (length body))
  unfolding OneOf
  stanza_row e =
      either IdentityV1 name line body
      (λ f. let m = words_more (words line) (leb-true 3 (count_of line) f) in
      as_row (brings_stanza (argument_of line 1)) (refl, (m.0, m.1, m.2 ∙ ap (λ w. w ∷ argument_of line 1 ∷ m.0 ∷ m.1) e)))
      (λ f. wrong (inr (inl e)))

  read_one : (machine : Machine) → ReadOne machine name line body (command_in machine name line body)
  unfolding OneOf
  read_one RecipientV1 =
      let w = argument_of line 0 in
      let m = RecipientV1 in
      let third = pick (same w done_word) done_command other_word in
      let second = pick (same w wrap_file_key_text) wrap_file_key third in
      let first = pick (same w add_identity_text) add_identity second in
      by_word m name line body (same w add_recipient_text) add_recipient first (λ f. recipient_row (same_eq w add_recipient_text f)) (λ f1.
      by_word m name line body (same w add_identity_text) add_identity second (λ f. let e = same_eq w add_identity_text f in identity_row m name line body (inr (inl e)) e) (λ f2.
      by_word m name line body (same w wrap_file_key_text) wrap_file_key third (λ f. key_row (same_eq w wrap_file_key_text f)) (λ f3.
      by_word m name line body (same w done_word) done_command other_word (λ f. let e = same_eq w done_word f in done_row m name line body (inr (inr (inr (inl e)))) e) (λ f4.
      unknown
      (⊎_elim (apart m name line body add_recipient_text f1) (⊎_elim (apart m name line body add_identity_text f2) (⊎_elim (apart m name line body wrap_file_key_text f3) (⊎_elim (apart m name line body done_word f4) (λ z. z)))))))))
  read_one IdentityV1 =
      let w = argument_of line 0 in
      let m = IdentityV1 in
      let second = pick (same w done_word) done_command other_word in
      let first = pick (same w recipient_stanza_text) recipient_stanza second in
      by_word m name line body (same w add_identity_text) add_identity first (λ f. let e = same_eq w add_identity_text f in identity_row m name line body (inl e) e) (λ f1.
      by_word m name line body (same w recipient_stanza_text) recipient_stanza second (λ f. stanza_row (same_eq w recipient_stanza_text f)) (λ f2.
      by_word m name line body (same w done_word) done_command other_word (λ f. let e = same_eq w done_word f in done_row m name line body (inr (inr (inl e))) e) (λ f3.
      unknown (⊎_elim (apart m name line body add_identity_text f1) (⊎_elim (apart m name line body recipient_stanza_text f2) (⊎_elim (apart m name line body done_word f3) (λ z. z)))))))

-- ---- what is said, by the command

-- what a command was said by
module _ (machine : Machine) (line body : List ℕ) where
  abbrev Says : SayingOne ℕ → Type 0
  Says x = SaysOne machine line body x

  abbrev Row : SayingOne (List ℕ) → Type 0
  Row x = RowOne machine (words line) body x

  abbrev pub SaidOne : CommandOne → Type 0
  SaidOne (recipient m) = Says (adds_recipient (argument_of line 1))
  SaidOne (identity m) = Says (adds_identity (argument_of line 1))
  SaidOne key = Says wraps_key
  SaidOne (header i m) = Says (brings_stanza i)
  SaidOne done = Says ends_one
  SaidOne other = KnownOne machine line → ⊥
  SaidOne (bad n) = ((n ≡ 4) × Wrong (KnownOne machine line) Row) ⊎ ((n ≡ 5) × Misindexed Row indices_one)

  -- the argument of a row
  argument_is : (v a : List ℕ) → words line ≡ v ∷ a ∷ [] → a ≡ argument_of line 1
  argument_is v a h = sym (ap (λ ws. get_or ws 1 []) h)

  module _ (name : List ℕ) where
    said_row : (x : SayingOne (List ℕ)) → Row x → SaidOne (command_of name line body x)
    unfolding All
    said_row (adds_recipient a) h = record { row = subst (λ a. Row (adds_recipient a)) (argument_is add_recipient_text a h.1) h; small = tt }
    said_row (adds_identity a) h = record { row = subst (λ a. Row (adds_identity a)) (argument_is add_identity_text a h.0) h; small = tt }
    said_row wraps_key h = record { row = h; small = tt }
    said_row (brings_stanza t) h =
        by_index (λ j. SaidOne (indexed j (header_mark name line (length body)))) t (λ i l e. record { row = subst (λ t. Row (brings_stanza t)) e h; small = (l, tt) }) (λ n. inr (refl, (brings_stanza t, h, λ a. n a.0)))
    said_row ends_one h = record { row = h; small = tt }

    -- no row has the number 4
    right_row : (x : SayingOne (List ℕ)) → command_of name line body x ≡ bad 4 → ⊥
    right_row (adds_recipient a) e = let z : ◌≡◌ {A = ℕ} 0 1 = cc in omega arith
    right_row (adds_identity a) e = let z : ◌≡◌ {A = ℕ} 0 1 = cc in omega arith
    right_row wraps_key e = let z : ◌≡◌ {A = ℕ} 0 1 = cc in omega arith
    right_row (brings_stanza t) e =
        by_index (λ j. indexed j (header_mark name line (length body)) ≡ bad 4 → ⊥) t (λ i l q e. let z : ◌≡◌ {A = ℕ} 0 1 = cc in omega arith) (λ n e. let z : ◌≡◌ {A = ℕ} 5 4 = cc in omega arith) e
    right_row ends_one e = let z : ◌≡◌ {A = ℕ} 0 1 = cc in omega arith

    pub said_one : SaidOne (command_in machine name line body)
    said_one = go (command_in machine name line body) refl (read_one name line body machine)
      where
        go : (c : CommandOne) → command_in machine name line body ≡ c → ReadOne machine name line body c → SaidOne c
        go c e (unknown n) = n
        go c e (wrong k) = inl (refl, (k, λ x h. right_row x (sym (row_command_lem name line body machine x h) ∙ e)))
        go c e (as_row x h) = said_row x h

    -- and back
    pub says_recipient : (a : List ℕ) → Says (adds_recipient a) → (command_in machine name line body ≡ recipient (mark_of (parse (form_of the_kind.Recipient) a) name)) × (a ≡ argument_of line 1)
    says_recipient a h = (row_command_lem name line body machine (adds_recipient a) h.row, argument_is add_recipient_text a h.row.1)

    pub says_identity : (a : List ℕ) → Says (adds_identity a) → (command_in machine name line body ≡ identity (mark_of (parse (form_of the_kind.Identity) a) name)) × (a ≡ argument_of line 1)
    says_identity a h = (row_command_lem name line body machine (adds_identity a) h.row, argument_is add_identity_text a h.row.0)

    pub says_key : Says wraps_key → command_in machine name line body ≡ key
    says_key h = row_command_lem name line body machine wraps_key h.row

    pub says_header : (i : ℕ) → Says (brings_stanza i) → command_in machine name line body ≡ header i (header_mark name line (length body))
    unfolding All
    says_header i h = row_command_lem name line body machine (brings_stanza (decimal i)) h.row ∙ ap (λ j. indexed j (header_mark name line (length body))) (read_decimal i h.small.0)

    -- a row whose text is no index
    pub misindexed_one : Misindexed Row indices_one → command_in machine name line body ≡ bad 5
    unfolding All
    misindexed_one (x, h, n) = row_command_lem name line body machine x h ∙ bad_row x n
      where
        bad_row : (x : SayingOne (List ℕ)) → (All IsIndex (indices_one x) → ⊥) → command_of name line body x ≡ bad 5
        bad_row (adds_recipient a) n = absurd (n tt)
        bad_row (adds_identity a) n = absurd (n tt)
        bad_row wraps_key n = absurd (n tt)
        bad_row (brings_stanza t) n = by_index (λ j. indexed j (header_mark name line (length body)) ≡ bad 5) t (λ i l e. absurd (n ((i, l, e), tt))) (λ m. refl)
        bad_row ends_one n = absurd (n tt)

    -- a word of the table and no row
    pub wrong_one : Wrong (KnownOne machine line) Row → command_in machine name line body ≡ bad 4
    wrong_one w = go (command_in machine name line body) (read_one name line body machine)
      where
        go : (c : CommandOne) → ReadOne machine name line body c → c ≡ bad 4
        go c (unknown n) = absurd (n w.0)
        go c (wrong k) = refl
        go c (as_row x h) = absurd (w.1 x h)
