-- The commands written one behind the other: one more, and how long they are.
use Prim.Native.Nat.{ℕ, zero, suc, ◌+◌, ◌-◌, ◌<◌, ◌≤◌}
use mathlib.Core.Path.{◌≡◌, refl, sym, ap, ap₂, ◌∙◌}
use mathlib.Core.List.{List, [], ◌∷◌, ◌++◌, map, append_assoc, append-nil}
use lib.ListN.{length, take, drop, get_or, length-append, length-take, length-drop, drop_of_length-le}
use native.Mathlib.Omega.{arith}
use borrow.Author.Tests.{le-ltb}
use Rattle.refusal.specs.Output.{filled}
use lib.Seq.{drop-drop}
use Rattle.refusal.proofs.Laws.Lists.{take_one, put_rest, part_rest, overwrite, overwrite_part}
use Rattle.strict_base64.specs.Code.{encoded}
use Rattle.strict_base64.specs.Lines.{wrapped}
use Rattle.stanza.specs.Grammar.{stanza_text}
use Rattle.identity_file.specs.Files.{add_identity_text, done_word, command_of, commands_of, transcript}
use Rattle.identity_file.specs.Steps.{text_at, texts_at, Place}

-- a command is what stands before its identity, the identity and two LFs
abbrev front : List ℕ
front = 45 ∷ 62 ∷ 32 ∷ add_identity_text

abbrev back : List ℕ
back = 10 ∷ 10 ∷ []

command_is : (l : List ℕ) → command_of l ≡ (front ++ l) ++ back
unfolding wrapped encoded
command_is l = append_assoc (front ++ l) (10 ∷ []) (10 ∷ [])

command_length : (l : List ℕ) → length (command_of l) ≡ length l + 18
command_length l = ap length (command_is l) ∙ simp length-append (omega arith)

pub transcript_length : (ls : List (List ℕ)) → length (transcript ls) ≡ length (commands_of ls) + 9
unfolding wrapped encoded
transcript_length ls = length-append (commands_of ls) (stanza_text done_word [])

commands_snoc : (ls : List (List ℕ)) (l : List ℕ) → commands_of (ls ++ l ∷ []) ≡ commands_of ls ++ command_of l
unfolding commands_of
commands_snoc [] l = append-nil (command_of l)
commands_snoc (x ∷ ls) l = ap (λ y. command_of x ++ y) (commands_snoc ls l) ∙ sym (append_assoc (command_of x) (commands_of ls) (command_of l))

map_snoc : (f : List ℕ → List ℕ) (xs : List (List ℕ)) (x : List ℕ) → map f (xs ++ x ∷ []) ≡ map f xs ++ f x ∷ []
map_snoc f [] x = refl
map_snoc f (y ∷ xs) x = ap (λ z. f y ∷ z) (map_snoc f xs x)

-- the commands of one place more
pub commands_more : (t : List ℕ) (ps : List (List ℕ)) (i : ℕ) → i < length ps →
    commands_of (texts_at t (take (i + 1) ps)) ≡ commands_of (texts_at t (take i ps)) ++ command_of (text_at t (get_or ps i []))
commands_more t ps i h =
    ap (λ x. commands_of (texts_at t x)) (take_one ps i [] h)
    ∙ ap commands_of (map_snoc (text_at t) (take i ps) (get_or ps i []))
    ∙ commands_snoc (texts_at t (take i ps)) (text_at t (get_or ps i []))

text_length : (t p : List ℕ) → Place t p → length (text_at t p) ≡ get_or p 1 0 - get_or p 0 0
text_length t p h = length-take (get_or p 1 0 - get_or p 0 0) (drop (get_or p 0 0) t) ∙ simp length-drop (omega (arith, h.order, h.inside))

-- how long they are
pub size_more : (t : List ℕ) (ps : List (List ℕ)) (i : ℕ) → i < length ps → Place t (get_or ps i []) → (let p = get_or ps i [] in
    length (commands_of (texts_at t (take (i + 1) ps))) ≡ length (commands_of (texts_at t (take i ps))) + (get_or p 1 0 - get_or p 0 0) + 18)
size_more t ps i h q =
    let p : List ℕ = get_or ps i [] in
    ap length (commands_more t ps i h) ∙ length-append (commands_of (texts_at t (take i ps))) (command_of (text_at t p))
    ∙ omega (arith, command_length (text_at t p), text_length t p q)

pub commands_none : (t : List ℕ) (ps : List (List ℕ)) → commands_of (texts_at t (take 0 ps)) ≡ []
unfolding commands_of
commands_none t ps = refl

-- those of fewer places are no longer
pub commands_le : (t : List ℕ) (ps : List (List ℕ)) (i : ℕ) → length (commands_of (texts_at t (take i ps))) ≤ length (commands_of (texts_at t ps))
unfolding commands_of
commands_le t ps zero = omega arith
commands_le t [] (suc i) = omega arith
commands_le t (p ∷ ps) (suc i) = simp length-append (omega (arith, commands_le t ps i))

-- ---- written behind a front

-- a content put at the front of the part that was lent from k on
pub placed_behind : (w content o o₀ part : List ℕ) (k : ℕ) → o ≡ w ++ drop k o₀ → length w ≡ k → part ≡ content ++ drop (length content) (take (length o - k) (drop k o)) →
    take k o ++ (part ++ drop (length o - k) (drop k o)) ≡ (w ++ content) ++ drop (k + length content) o₀
placed_behind w content o o₀ part k e h p =
    put_rest k o part
    ∙ ap (λ x. take k o ++ x) (p ∙ ap (λ x. content ++ drop (length content) x) (part_rest k o))
    ∙ overwrite_part o o₀ w content k e h
    ∙ ap (λ n. (w ++ content) ++ drop n o₀) (length-append w content ∙ ap (λ x. x + length content) h)

-- n bytes copied to the front of what is left
pub copied_behind : (w block o o₀ : List ℕ) (k n : ℕ) → o ≡ w ++ drop k o₀ → length w ≡ k → length block ≡ n →
    take k o ++ (block ++ drop (k + n - k) (drop k o)) ≡ (w ++ block) ++ drop (k + n) o₀
copied_behind w block o o₀ k n e h l =
    let d : k + n - k ≡ n = omega arith in
    rw (d, drop-drop n k o) (sym (append_assoc (take k o) block (drop (k + n) o)) ∙ overwrite o o₀ w block k n e h l)

-- what fills a part of its own length is all of it
pub filled_exact : (w o : List ℕ) → length o ≡ length w → filled w o ≡ w
filled_exact w o h = rw (le-ltb (length o) (length w) (omega (arith, h))) (ap (λ x. w ++ x) (drop_of_length-le o (omega (arith, h))) ∙ append-nil w)

-- a command by three copies
pub command_placed : (l o₀ : List ℕ) → (let o₁ = front ++ drop 16 o₀ in
    let k = 16 + length l in
    let o₂ = take 16 o₁ ++ (l ++ drop (k - 16) (drop 16 o₁)) in
    take k o₂ ++ (back ++ drop (k + 2 - k) (drop k o₂)) ≡ command_of l ++ drop (length l + 18) o₀)
command_placed l o₀ =
    let k : ℕ = 16 + length l in
    let o₁ : List ℕ = front ++ drop 16 o₀ in
    let o₂ : List ℕ = take 16 o₁ ++ (l ++ drop (k - 16) (drop 16 o₁)) in
    let m : k + 2 ≡ length l + 18 = omega arith in
    copied_behind (front ++ l) back o₂ o₀ k 2 (copied_behind front l o₁ o₀ 16 (length l) refl refl refl) (length-append front l) refl
    ∙ ap₂ (λ x y. x ++ drop y o₀) (sym (command_is l)) m

-- one command more, behind those that are written
pub commands_placed : (t : List ℕ) (ps : List (List ℕ)) (i : ℕ) (o o₀ part : List ℕ) (from : ℕ) → i < length ps → Place t (get_or ps i []) → from ≡ length (commands_of (texts_at t (take i ps))) →
    o ≡ commands_of (texts_at t (take i ps)) ++ drop from o₀ → (let p = get_or ps i [] in
    part ≡ command_of (text_at t p) ++ drop (length (text_at t p) + 18) (take (length o - from) (drop from o)) →
    take from o ++ (part ++ drop (length o - from) (drop from o)) ≡ commands_of (texts_at t (take (i + 1) ps)) ++ drop (from + (get_or p 1 0 - get_or p 0 0) + 18) o₀)
commands_placed t ps i o o₀ part from h q g e w =
    let p : List ℕ = get_or ps i [] in
    let l : List ℕ = text_at t p in
    let n : length l + 18 ≡ length (command_of l) = sym (command_length l) in
    let m : from + length (command_of l) ≡ from + (get_or p 1 0 - get_or p 0 0) + 18 = omega (arith, command_length l, text_length t p q) in
    placed_behind (commands_of (texts_at t (take i ps))) (command_of l) o o₀ part from e (sym g) (w ∙ ap (λ x. command_of l ++ drop x (take (length o - from) (drop from o))) n)
    ∙ ap₂ (λ x y. x ++ drop y o₀) (sym (commands_more t ps i h)) m

-- done behind the commands
pub done_placed : (ls : List (List ℕ)) (o o₀ : List ℕ) (k : ℕ) → k ≡ length (commands_of ls) → o ≡ commands_of ls ++ drop (length (commands_of ls)) o₀ →
    take k o ++ (stanza_text done_word [] ++ drop (k + 9 - k) (drop k o)) ≡ transcript ls ++ drop (length (transcript ls)) o₀
unfolding wrapped encoded
done_placed ls o o₀ k g e =
    let n : k + 9 ≡ length (transcript ls) = omega (arith, transcript_length ls) in
    copied_behind (commands_of ls) (stanza_text done_word []) o o₀ k 9 (rw g e) (sym g) refl ∙ ap (λ y. transcript ls ++ drop y o₀) n
