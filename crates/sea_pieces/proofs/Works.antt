-- The transaction of each client, and what calls of one client leave of the others'.
use Rattle.std.proofs.Common.{◌≡◌, ◌≢◌, ℕ, zero, suc, ◌-◌, ◌<◌, ◌≤◌, true, List, length, get_or, Option, Some, None, inl, inr, refl, sym, ap, subst, ◌∙◌, arith}
use Rattle.std.proofs.Math.ListN.{set}
use Rattle.std.specs.Prelude.{MatchOption, option_map, slice_get}
use Rattle.std.specs.FinMap.{empty, get-empty, same_map}
use Rattle.std.specs.Ordering.{nat_cmp}
use Rattle.std.specs.Cmp.Lexicographic.{slice_cmp, nat_list_cmp_total}
use Rattle.std.specs.Vec.{vec_len}
use Rattle.std.proofs.lemmas.Map.Lookups.{exact_bytes}
use Rattle.std.proofs.lemmas.List.{get_or_read, get_or-set_other, get_or-set_same}
use Rattle.std.proofs.lemmas.Option.{none-some, slice_get_within, unwrap_or-slice_get}
use Rattle.sea_object.specs.declared.reply.Reply.TheVariants as reply
use Rattle.sea_sets.specs.Board.{HasClient, IsOpen, Place, is_open_in, noted, noted_in, place_of}
use Rattle.sea_sets.specs.declared.board.Board.{Board}
use Rattle.sea_sets.specs.declared.notes.Note.{Note}
use Rattle.sea_transactions.specs.Calls.{HasMoved, Keeps, MovesOn, Stays}
use Rattle.sea_transactions.specs.State.{Transaction}
use Rattle.sea_pieces.specs.declared.workspace.Workspace.{Workspace}
use Rattle.sea_base.specs.declared.place.Commit.{Commit}
use Rattle.sea_pieces.specs.declared.piece.Piece.{Piece}
use Rattle.sea_pieces.specs.declared.committed.Version.{Version}
use Rattle.sea_pieces.specs.declared.store.PieceStore.{PieceStore}
use Rattle.sea_pieces.specs.Committed.{VersionMap, objects_in, plain_object, version_of}
use Rattle.sea_pieces.specs.Noted.{AreMarked, AreUpTo}
use Rattle.sea_pieces.specs.Spelling.{AreNoPieces, ArePieces, spelling}
use Rattle.sea_pieces.specs.Store.{Continues, Grows, IsStable, KeepsOthers, objects_of_store, versions_of}
use Rattle.sea_pieces.specs.Transaction.{Done}
use Rattle.sea_pieces.specs.Works.{HasDone, done_by, nothing_done, state_of, transaction_of, work_of}
use Rattle.sea_pieces.proofs.Stable.{grown_kept, others_kept}
use Rattle.sea_pieces.proofs.Versions.{get-objects_in}

-- a client with an open transaction is one of the board's
pub open_client : (board : Board) (client : ℕ) → IsOpen board client → HasClient board client
open_client board zero is_open = absurd cc
open_client board (suc c) is_open = within (slice_get board.transactions.items c) refl is_open
  where
    within : (o : Place) → slice_get board.transactions.items c ≡ o → is_open_in o ≡ true → HasClient board (suc c)
    within None is some = absurd cc
    within (Some x) is some = let here = slice_get_within board.transactions.items c x is in (omega arith, omega (arith, here))

pub has_place : (space : Workspace) (client : ℕ) → HasClient space.store.board client → client - 1 < vec_len space.transactions
has_place space client has = omega (arith, space.each, has.0, has.1)

pub done_at : (transactions : List Done) (client : ℕ) (done : Done) → 1 ≤ client → client ≤ length transactions → done ≡ get_or transactions (client - 1) done → done_by transactions client ≡ done
done_at transactions zero done first last is = absurd (omega (arith, first))
done_at transactions (suc k) done first last is =
    let at : suc k - 1 ≡ k = omega arith in
    unwrap_or-slice_get transactions k nothing_done
    ∙ sym (get_or_read transactions k done (omega (arith, last)) (is ∙ ap (λ i. get_or transactions i done) at) nothing_done)

pub put_here : (transactions : List Done) (client : ℕ) (done : Done) → 1 ≤ client → client ≤ length transactions → done_by (set transactions (client - 1) done) client ≡ done
put_here transactions zero done first last = absurd (omega (arith, first))
put_here transactions (suc k) done first last =
    let at : suc k - 1 ≡ k = omega arith in
    ap (λ i. done_by (set transactions i done) (suc k)) at
    ∙ unwrap_or-slice_get (set transactions k done) k nothing_done
    ∙ get_or-set_same transactions k done nothing_done (omega (arith, last))

pub put_apart : (transactions : List Done) (client : ℕ) (done : Done) → 1 ≤ client → (c : ℕ) → c ≢ client → done_by (set transactions (client - 1) done) c ≡ done_by transactions c
put_apart transactions client done first zero other = refl
put_apart transactions client done first (suc j) other =
    unwrap_or-slice_get (set transactions (client - 1) done) j nothing_done
    ∙ get_or-set_other transactions (client - 1) j done nothing_done (λ same. other (omega (arith, same, first)))
    ∙ sym (unwrap_or-slice_get transactions j nothing_done)

transaction_in : Place → Done → Transaction
transaction_in place done = record {
  is_open = is_open_in place;
  noted = noted_in place;
  reply = reply.Done done.items;
  change = spelling done.pieces;
}

same_transaction : (client : ℕ) (old new : Workspace) → place_of new.store.board client ≡ place_of old.store.board client → work_of new client ≡ work_of old client → transaction_of new client ≡ transaction_of old client
unfolding transaction_in
same_transaction client old new place work =
    ap (λ p. transaction_in p (work_of new client)) place ∙ ap (transaction_in (place_of old.store.board client)) work

module _ (client : ℕ) (old new : Workspace) where
  -- where only the client's own place goes on, the others' transactions stay
  pub others_stay : Continues client old.store new.store → ((c : ℕ) → c ≢ client → work_of new c ≡ work_of old c) → Keeps state_of HasDone client old new
  others_stay goes same = record {
    objects = ap objects_in goes.versions;
    last = goes.last;
    clients = goes.others.clients;
    others = λ c other. record {
      transaction = same_transaction c old new (goes.others.places c other) (same c other);
      done = λ ops did. subst (λ d. IsStable new.store c ops d) (sym (same c other)) (others_kept client old.store new.store goes c other ops (work_of old c) did);
    };
  }

  -- as late pieces are laid and names get addresses
  pub grown_stays : Grows old.store new.store → work_of new client ≡ work_of old client → Stays state_of HasDone client old new
  grown_stays grows same = record {
    transaction = same_transaction client old new (ap (λ b. place_of b client) grows.board) same;
    done = λ ops did. subst (λ d. IsStable new.store client ops d) (sym same) (grown_kept old.store new.store grows client ops (work_of old client) did);
  }

made : Option Commit → Option Commit → Note
made seen current = record { seen = seen; current = current }

module _ (commit : Commit) (client : ℕ) (old new : Workspace) (marks : AreMarked client commit old.store.board new.store.board) where
  left : (c at : ℕ) → c ≢ client → (note : Option Note) → noted old.store.board c at ≡ note → HasMoved commit note (noted new.store.board c at)
  unfolding made
  left c at other None is = marks.none c at other is
  left c at other (Some note) is =
      let now = marks.left c at note other is in
      elim now.2.current [
        | inl same ↦ inl (now.1 ∙ ap (λ (n : Note). Some n) (ap (λ s. made s now.0.current) now.2.seen ∙ ap (made note.seen) same))
        | inr moved ↦ inr (now.1 ∙ ap (λ (n : Note). Some n) (ap (λ s. made s now.0.current) now.2.seen ∙ ap (made note.seen) moved))
      ]

  -- as a commit leaves those of the others
  pub others_move : KeepsOthers client old.store new.store → ((c : ℕ) → c ≢ client → work_of new c ≡ work_of old c) → (c : ℕ) → c ≢ client → MovesOn state_of HasDone commit c old new
  others_move keeps same c other = record {
    is_open = marks.is_open c other;
    noted = λ at. left c at other (noted old.store.board c at) refl;
    reply = ap (λ d. reply.Done d.items) (same c other);
    change = ap (λ d. spelling d.pieces) (same c other);
    done = λ ops did. subst (λ d. IsStable new.store c ops d) (sym (same c other)) (keeps c other ops (work_of old c) did);
  }

-- no object, and none late
pub none_laid : (store : PieceStore) (m : VersionMap) → versions_of store ≡ m → m ≡ empty → objects_of_store store ≡ empty
none_laid store m is none =
    ap objects_in (is ∙ none)
    ∙ same_map nat_list_cmp_total exact_bytes _ _ (λ name.
    get-objects_in empty name
    ∙ ap (λ (found : Option Version). option_map plain_object (option_map (λ v. v.content) found)) (get-empty (slice_cmp nat_cmp) name)
    ∙ sym (get-empty (slice_cmp nat_cmp) name))

-- no object has a version
pub none_up_to : (last : Commit) (m : VersionMap) → m ≡ empty → AreUpTo last m
none_up_to last m none name version is =
    absurd (none-some version (sym (ap (λ v. version_of v name) none ∙ ap (option_map (λ v. v.commit)) (get-empty (slice_cmp nat_cmp) name)) ∙ is))

pub pieces_found : (found : Option (List Piece)) (pieces : List Piece) (bytes : List ℕ) → found ≡ Some pieces → MatchOption found (AreNoPieces bytes) (ArePieces bytes) → ArePieces bytes pieces
pieces_found found pieces bytes is read = subst (λ f. MatchOption f (AreNoPieces bytes) (ArePieces bytes)) is read
