-- Phase two at the client end: what an accepted phase leaves in the tables, and what its calls write.
use mathlib.Core.Path.{◌≡◌, refl, sym, ap, ap₂, ◌∙◌, subst}
use mathlib.Core.Bool.{true, false}
use mathlib.Core.List.{List, [], ◌∷◌, ◌++◌, map, append-nil, append_assoc}
use Rattle.tables.specs.Tables.{Row}
use Rattle.session.specs.Tables.{Tables}
use Rattle.phase_one.specs.Views as one_kind
use Rattle.session.specs.declared.opening.Machine.{Machine}
use Rattle.session.specs.declared.phases.Phase.TheVariants.{Two}
use Rattle.conversation.specs.Calls.{State, state_of, after, Accepted}
use Rattle.conversation.specs.Kinds.{Buffers}
use Rattle.conversation.specs.PhaseTwo.{KindTwo, view_of, rows_of}
use Rattle.conversation.specs.Phases.{All, Whole, is_done, command_in, payload_in, Block, Supply, behind, two_part, block_calls, calls_of, written_in, responses_to, LongEnough}
use Rattle.session.specs.Session.{Session}
use Rattle.conversation.specs.Allowed.{Left}
use Rattle.conversation.proofs.Laws.AllowedTwo.{Standing, standing_behind, first_turn, behind_block, done_asks}
use Rattle.conversation.proofs.Laws.Runs.{after_append, accepted_append, enough_append}
use Rattle.conversation.proofs.Laws.StepsTwo.{at, judged, tables_with, buffers_with, Settled, block_from, block_to}
use Rattle.conversation.proofs.Laws.ViewsTwo.{applied_view_two, two_leaves}

-- the rows of a kind that a block makes
abbrev pub rows_by : Machine → KindTwo → Block → List Row
rows_by machine k x = rows_of (command_in machine x.text) k (payload_in machine x.text)

-- .. a list of blocks
unfoldable pub rows_in : Machine → KindTwo → List Block → List Row
rows_in machine k [] = []
rows_in machine k (x ∷ xs) = rows_by machine k x ++ rows_in machine k xs

-- a state with these rows behind those of before, and phase one's tables and buffers as they were
pub record Grown (t : Tables) (b : Buffers) (rows : KindTwo → List Row) (u : State) : Type 0 where
  pub views : (k : KindTwo) → view_of k u.session.tables u.buffers.second ≡ view_of k t b.second ++ rows k
  pub tables : (k : one_kind.KindOne) → one_kind.table_of k u.session.tables ≡ one_kind.table_of k t
  pub buffers : u.buffers.first ≡ b.first

module _ (s : Session) (left : Left) where
  -- one block
  module _ (t : Tables) (b : Buffers) (x : Block) (w : Whole x.text) (g : Standing left t b.second) (z : judged s t b x.text w ≡ 0) where
    view_block : (k : KindTwo) → view_of k (tables_with s t b x.text w) (buffers_with s t b x.text w).second ≡ view_of k t b.second ++ rows_by s.machine k x
    view_block k = applied_view_two false t b.second (payload_in s.machine x.text) g.going.held (command_in s.machine x.text) z k

    first_block : (k : one_kind.KindOne) → one_kind.table_of k (tables_with s t b x.text w) ≡ one_kind.table_of k t
    first_block k = two_leaves t (payload_in s.machine x.text) b.second (command_in s.machine x.text) k

  -- the blocks from here on
  pub record Done (t : Tables) (b : Buffers) (outs : Supply) (xs : List Block) : Type 0 where
    pub grown : Grown t b (λ k. rows_in s.machine k xs) (after (at s Two t) b (calls_of two_part outs xs))
    pub texts : written_in two_part (at s Two t) b outs xs ≡ map (responses_to two_part s.machine s.screen) xs

  pub left_from : (xs : List Block) (y : Block) (t : Tables) (b : Buffers) (outs : Supply) → Standing left t b.second → All (λ x. Whole x.text) (xs ++ (y ∷ [])) → All (λ x. is_done x.text ≡ false) xs → is_done y.text ≡ true →
      LongEnough (at s Two t) b (calls_of two_part outs (xs ++ (y ∷ []))) → Accepted (at s Two t) b (calls_of two_part outs (xs ++ (y ∷ []))) → Done t b outs (xs ++ (y ∷ []))
  unfolding All calls_of rows_in written_in after
  left_from [] y t b outs g w d e l a =
      let le = (enough_append (at s Two t) b (block_calls two_part outs y) [] l).0 in
      let h = block_to s t b y w.0 outs le ((accepted_append (at s Two t) b (block_calls two_part outs y) []).0 a).0 (λ v q. absurd (done_asks s.machine y.text e v q)) in
      let k = block_from s t b y w.0 outs le h.0 h.1 in
      let u = after_append (at s Two t) b (block_calls two_part outs y) [] ∙ k.state in
      record {
        grown = subst (Grown t b _) (sym u) (record {
          views = λ j. view_block t b y w.0 g h.0 j ∙ ap (λ r. view_of j t b.second ++ r) (sym (append-nil (rows_by s.machine j y)));
          tables = first_block t b y w.0 g h.0;
          buffers = refl;
        });
        texts = ap (λ q. q ∷ []) k.texts;
      }
  left_from (x ∷ xs) y t b outs g w d e l a =
      let cs = calls_of two_part (behind outs x) (xs ++ (y ∷ [])) in
      let le = enough_append (at s Two t) b (block_calls two_part outs x) cs l in
      let split = (accepted_append (at s Two t) b (block_calls two_part outs x) cs).0 a in
      let turn = first_turn s left (after (at s Two t) b (block_calls two_part outs x)).session (after (at s Two t) b (block_calls two_part outs x)).buffers (behind outs x) xs y split.1 in
      let h = block_to s t b x w.0 outs le.0 split.0 (λ v q. subst Settled (sym turn) tt) in
      let k = block_from s t b x w.0 outs le.0 h.0 h.1 in
      let t' = tables_with s t b x.text w.0 in
      let b' = buffers_with s t b x.text w.0 in
      let u : after (at s Two t) b (block_calls two_part outs x) ≡ state_of (at s Two t') b' = behind_block s left t b x w.0 outs d.0 k in
      let i = left_from xs y t' b' (behind outs x) (standing_behind s left t b x w.0 g h.0) w.1 d.1 e (subst (λ u. LongEnough u.session u.buffers cs) u le.1) (subst (λ u. Accepted u.session u.buffers cs) u split.1) in
      let v : after (at s Two t) b (block_calls two_part outs x ++ cs) ≡ after (at s Two t') b' cs = after_append (at s Two t) b (block_calls two_part outs x) cs ∙ ap (λ u. after u.session u.buffers cs) u in
      record {
        grown = subst (Grown t b _) (sym v) (record {
          views = λ j. i.grown.views j ∙ ap (λ r. r ++ rows_in s.machine j (xs ++ (y ∷ []))) (view_block t b x w.0 g h.0 j) ∙ append_assoc (view_of j t b.second) (rows_by s.machine j x) (rows_in s.machine j (xs ++ (y ∷ [])));
          tables = λ j. i.grown.tables j ∙ first_block t b x w.0 g h.0 j;
          buffers = i.grown.buffers;
        });
        texts = ap₂ (λ q qs. q ∷ qs) k.texts (ap (λ u. written_in two_part u.session u.buffers (behind outs x) (xs ++ (y ∷ []))) u ∙ i.texts);
      }
