-- A trail as far as it was read.
use Rattle.std.proofs.Common.{◌≡◌, ℕ, ◌+◌, List, [], ◌∷◌, ◌++◌, length, replicate, refl, sym, ap, ◌∙◌, subst, append_assoc}
use Rattle.std.specs.FinMap as map
use Rattle.std.proofs.lemmas.List.{append-nil, length_push}
use Rattle.std.proofs.lemmas.List.Concat.{flat_map-append}
use Rattle.sea_plain.specs.Objects.{ObjectMap}
use Rattle.sea_top.specs.declared.record.Piece.{Piece}
use Rattle.sea_top.specs.declared.record.PlainRecord.{PlainRecord}
use Rattle.sea_top.specs.declared.trail.Found.{Found}
use Rattle.sea_top.specs.declared.trail.Trail.{Trail}
use Rattle.sea_top.specs.Record.{blocks_of, digest_of}
use Rattle.sea_top.specs.Trail.{IsChain, IsTrail, Continues, NoneContinues, IsFound, IsTrailOf, chain_end, last_digest, after_piece, after_pieces, pieces_of}

-- the records that were read: whatever goes on behind them makes the trail with them
pub record HasRead (trail : Trail) (image : List ℕ) : Type 0 where
  pub records : List PlainRecord
  pub goes_on : (more : List PlainRecord) → IsChain image trail.end trail.commit trail.previous.0 more → IsTrail image (records ++ more)
  pub end : trail.end ≡ chain_end 0 records
  pub commit : trail.commit ≡ length records + 1
  pub previous : trail.previous.0 ≡ last_digest (replicate 32 0) records
  pub objects : trail.objects ≡ after_pieces (pieces_of records) map.empty

-- nothing is read at first
pub HasRead-none : (trail : Trail) (image : List ℕ) → trail.end ≡ 0 → trail.commit ≡ 1 → trail.previous.0 ≡ replicate 32 0 → trail.objects ≡ map.empty → HasRead trail image
HasRead-none trail image end commit previous objects = record {
  records = [];
  goes_on = λ more chain. subst (λ (e : ℕ). IsChain image e 1 (replicate 32 0) more) end (subst (λ (c : ℕ). IsChain image trail.end c (replicate 32 0) more) commit (subst (λ (p : List ℕ). IsChain image trail.end trail.commit p more) previous chain));
  end = end;
  commit = commit;
  previous = previous;
  objects = objects;
}

pub chain_end-append : (place : ℕ) (xs ys : List PlainRecord) → chain_end place (xs ++ ys) ≡ chain_end (chain_end place xs) ys
chain_end-append place [] ys = refl
chain_end-append place (x ∷ xs) ys = chain_end-append (place + blocks_of x.pieces) xs ys

pub last_digest-append : (previous : List ℕ) (xs ys : List PlainRecord) → last_digest previous (xs ++ ys) ≡ last_digest (last_digest previous xs) ys
last_digest-append previous [] ys = refl
last_digest-append previous (x ∷ xs) ys = last_digest-append (digest_of x) xs ys

pub after_pieces-append : (xs ys : List Piece) (objects : ObjectMap) → after_pieces (xs ++ ys) objects ≡ after_pieces ys (after_pieces xs objects)
after_pieces-append [] ys objects = refl
after_pieces-append (x ∷ xs) ys objects = after_pieces-append xs ys (after_piece x objects)

-- the objects after the pieces of one record more
pub opened_more : (records : List PlainRecord) (plain : PlainRecord) (objects : ObjectMap) → after_pieces (pieces_of (records ++ plain ∷ [])) objects ≡ after_pieces plain.pieces (after_pieces (pieces_of records) objects)
opened_more records plain objects =
    ap (λ (pieces : List Piece). after_pieces pieces objects) (flat_map-append (λ r. r.pieces) records (plain ∷ []) ∙ ap (λ (pieces : List Piece). pieces_of records ++ pieces) (append-nil plain.pieces)) ∙ after_pieces-append (pieces_of records) plain.pieces objects

-- one record more
pub HasRead-more : (trail next : Trail) (image : List ℕ) (found : Found) → HasRead trail image → Continues image trail.end trail.commit trail.previous.0 found.plain → IsFound found → next.end ≡ trail.end + found.blocks → next.commit ≡ trail.commit + 1 → next.previous.0 ≡ found.digest.0 → next.objects ≡ after_pieces found.plain.pieces trail.objects → HasRead next image
HasRead-more trail next image found has continues is end commit previous objects =
    let plain = found.plain in
    let end_is : next.end ≡ trail.end + blocks_of plain.pieces = end ∙ ap (λ (n : ℕ). trail.end + n) is.blocks in
    let digest_is : next.previous.0 ≡ digest_of plain = previous ∙ is.digest in
    record {
      records = has.records ++ plain ∷ [];
      goes_on = λ more chain.
          let rest : IsChain image (trail.end + blocks_of plain.pieces) (trail.commit + 1) (digest_of plain) more = subst (λ (e : ℕ). IsChain image e (trail.commit + 1) (digest_of plain) more) end_is (subst (λ (c : ℕ). IsChain image next.end c (digest_of plain) more) commit (subst (λ (p : List ℕ). IsChain image next.end next.commit p more) digest_is chain)) in
          subst (λ (rs : List PlainRecord). IsTrail image rs) (sym (append_assoc has.records (plain ∷ []) more)) (has.goes_on (plain ∷ more) (continues, rest));
      end = end_is ∙ ap (λ (e : ℕ). e + blocks_of plain.pieces) has.end ∙ sym (chain_end-append 0 has.records (plain ∷ []));
      commit = commit ∙ ap (λ (n : ℕ). n + 1) has.commit ∙ ap (λ (n : ℕ). n + 1) (sym (length_push has.records plain));
      previous = digest_is ∙ sym (last_digest-append (replicate 32 0) has.records (plain ∷ []));
      objects = objects ∙ ap (after_pieces plain.pieces) has.objects ∙ sym (opened_more has.records plain map.empty);
    }

-- where none goes on, all are read
pub HasRead-all : (trail : Trail) (image : List ℕ) → HasRead trail image → NoneContinues image trail.end trail.commit trail.previous.0 → IsTrailOf trail image
HasRead-all trail image has none = record {
  records = has.records;
  is_trail = subst (λ (rs : List PlainRecord). IsTrail image rs) (append-nil has.records) (has.goes_on [] none);
  end = has.end;
  commit = has.commit;
  previous = has.previous;
  objects = has.objects;
}
