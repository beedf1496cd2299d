-- A record behind those that wait.
use Rattle.std.proofs.Common.{◌≡◌, ℕ, ◌+◌, ◌≤◌, List, [], ◌∷◌, ◌++◌, length, refl, sym, ap, ◌∙◌, arith, append_assoc}
use Rattle.std.specs.List.{flat_map, AllByRecursion}
use Rattle.sea_top.specs.declared.queue.Queue.{Queue}
use Rattle.sea_top.specs.declared.record.Piece.{Piece}
use Rattle.sea_top.specs.declared.record.PlainRecord.{PlainRecord}
use Rattle.sea_top.specs.Record.{IsPiece, IsPlain, blocks_of, digest_of, spelling}
use Rattle.sea_top.specs.Trail.{Linked, last_digest}
use Rattle.sea_base.proofs.Digests.{length-sha256}

pub length-digest_of : (plain : PlainRecord) → length (digest_of plain) ≡ 32
unfolding digest_of
length-digest_of plain = length-sha256 _

-- a record takes a block at least
pub some_blocks : (pieces : List Piece) → 1 ≤ blocks_of pieces
unfolding blocks_of
some_blocks pieces = omega arith

pub flat_map-push : (news : List PlainRecord) (plain : PlainRecord) → flat_map spelling (news ++ plain ∷ []) ≡ flat_map spelling news ++ spelling plain
flat_map-push [] plain = append_nil (spelling plain)
  where
    append_nil : (xs : List ℕ) → xs ++ [] ≡ xs
    append_nil [] = refl
    append_nil (x ∷ xs) = ap (λ (r : List ℕ). x ∷ r) (append_nil xs)
flat_map-push (first ∷ news) plain =
    ap (λ (r : List ℕ). spelling first ++ r) (flat_map-push news plain) ∙ sym (append_assoc (spelling first) (flat_map spelling news) (spelling plain))

pub last_digest-push : (previous : List ℕ) (news : List PlainRecord) (plain : PlainRecord) → last_digest previous (news ++ plain ∷ []) ≡ digest_of plain
last_digest-push previous [] plain = refl
last_digest-push previous (first ∷ news) plain = last_digest-push (digest_of first) news plain

pub Linked-push : (commit : ℕ) (previous : List ℕ) (news : List PlainRecord) (plain : PlainRecord) → Linked commit previous news → IsPlain plain → plain.commit.0 ≡ commit + length news → plain.previous.0 ≡ last_digest previous news → Linked commit previous (news ++ plain ∷ [])
Linked-push commit previous [] plain linked is numbered follows = (is, omega arith, follows, tt)
Linked-push commit previous (first ∷ news) plain linked is numbered follows =
    (linked.0, linked.1, linked.2, Linked-push (commit + 1) (digest_of first) news plain linked.3 is (omega arith) follows)

-- what a queue makes of pieces
pub is_plain : (queue : Queue) (pieces : List Piece) → 1 ≤ length pieces → AllByRecursion IsPiece pieces → blocks_of pieces ≤ 1024 → IsPlain (record { commit = queue.commit; previous = queue.previous; pieces = pieces })
is_plain queue pieces some fit short =
    record {
      counted = queue.counted;
      commit = omega (arith, queue.few, queue.room);
      previous = queue.digest;
      some = some;
      pieces = fit;
      blocks = short;
    }
