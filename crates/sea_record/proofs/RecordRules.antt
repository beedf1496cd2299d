-- What keeps the rules has room in its fields, and the other way about.
use Rattle.std.proofs.Common.{◌≡◌, ℕ, ◌^◌, ◌<◌, ◌≤◌, List, [], ◌∷◌, ◌++◌, length, get_or, refl, ap, subst, ◌∙◌, inl, inr, arith, length-append}
use Rattle.std.specs.List.{All, flat_map}
use Rattle.std.proofs.lemmas.List.{get_or-map, length-map, length-replicate}
use Rattle.std.proofs.lemmas.List.Elements.{All-map}
use Rattle.sea_base.specs.declared.place.Laddr.{Laddr}
use Rattle.sea_record.specs.Entries.{address_bytes, change_bytes, counted}
use Rattle.sea_record.specs.EntryLaws.{IsMark, IsAddress, IsListed}
use Rattle.sea_record.specs.Parts.{spelled_mark, listed_in, spelled_metadata, mark_of, metadata_of, Fits, HasNumbers, HasSum}
use Rattle.sea_record.specs.Record.{listed, IsOfKind, HasAddresses, IsRecord, metadata}
use Rattle.sea_record.specs.declared.lists.Metadata.{Metadata}
use Rattle.sea_record.specs.declared.record.Body.{Body}
use Rattle.sea_record.specs.declared.record.Change.{Change}
use Rattle.sea_record.specs.declared.record.Kind.{Kind}
use Rattle.sea_record.specs.declared.record.Kind.TheVariants.{Mount, Client, Shift, Nodes, Plain}
use Rattle.sea_record.specs.declared.record.Placed.{Placed}
use Rattle.sea_record.specs.declared.record.Record.{Record}
use Rattle.sea_record.proofs.EntryBytes.{length-address_bytes, length-change_bytes}
use Rattle.sea_record.proofs.EntryLists.{length-counted}
use Rattle.sea_record.proofs.Metadatas.{none_or_some, lists, spelled_lists}
use Rattle.sea_record.proofs.Records.{metadata_is}

-- a list takes a byte or more for each entry
pub least_bytes : {A : Type 0} (spelled : A → List ℕ) → ((x : A) → 1 ≤ length (spelled x)) → (xs : List A) → length xs ≤ length (flat_map spelled xs)
least_bytes spelled some [] = omega arith
least_bytes spelled some (x ∷ xs) = omega (arith, some x, least_bytes spelled some xs, length-append (spelled x) (flat_map spelled xs))

pub listed_is : (body : Body) → listed_in (metadata_of body) ≡ listed body
listed_is body = omega (arith, length-map body.placed mark_of)

few_listed : (body : Body) → (length body.dropped ≤ length (metadata body)) × (length body.changes ≤ length (metadata body))
unfolding lists
few_listed body =
    elim (none_or_some (listed body)) [
      | inl none ↦ (omega arith, omega arith)
      | inr some ↦ let m = lists_long (metadata_of body) (omega (arith, listed_is body)) in
          (omega (arith, m.0, ap length (metadata_is body)), omega (arith, m.1, ap length (metadata_is body)))
    ]
  where
    lists_long : (m : Metadata) → 1 ≤ listed_in m → (length m.dropped ≤ length (spelled_metadata m)) × (length m.changes ≤ length (spelled_metadata m))
    lists_long m some =
        let a = counted spelled_mark m.marks in
        let b = counted address_bytes m.dropped in
        let c = counted change_bytes m.changes in
        let len : length (spelled_metadata m) ≡ length (a ++ (b ++ c)) = ap length (spelled_lists m some) in
        let lb = least_bytes address_bytes (λ x. omega (arith, length-address_bytes x)) m.dropped in
        let lc = least_bytes change_bytes (λ x. omega (arith, length-change_bytes x)) m.changes in
        (omega (arith, len, length-append a (b ++ c), length-append b c, length-counted address_bytes m.dropped, lb), omega (arith, len, length-append a (b ++ c), length-append b c, length-counted change_bytes m.changes, lc))

version_small : (kind : Kind) (commit : ℕ) (body : Body) → IsOfKind kind commit body → commit < 2 ^ 63 → (k : ℕ) (d : Placed) → k < length body.placed → (get_or body.placed k d).version.0 < 2 ^ 64
version_small Mount commit body is small k d within = absurd (omega (arith, is.listed))
version_small Client commit body is small k d within = omega (arith, is.versions k d within)
version_small Shift commit body is small k d within = omega (arith, (is.versions k d within).1)
version_small Nodes commit body is small k d within = absurd (omega (arith, is.listed))
version_small Plain commit body is small k d within = absurd (omega (arith, is.listed))

plain_alone : (kind : Kind) (commit : ℕ) (body : Body) → IsOfKind kind commit body → kind ≡ Plain → listed body ≡ 0
plain_alone Mount commit body is e = is.listed
plain_alone Client commit body is e = cc
plain_alone Shift commit body is e = cc
plain_alone Nodes commit body is e = is.listed
plain_alone Plain commit body is e = is.listed

no_plain : (kind : Kind) (commit : ℕ) (body : Body) → IsOfKind kind commit body → (kind ≡ Plain → ⊥) → length body.plain ≡ 0
no_plain Mount commit body is other = is.plain
no_plain Client commit body is other = is.plain
no_plain Shift commit body is other = is.plain
no_plain Nodes commit body is other = is.plain
no_plain Plain commit body is other = absurd (other refl)

pub fits_of : (r : Record) → IsRecord r → Fits r
fits_of r is = record {
  header = record { mount = omega (arith, is.mount.1); seq = omega (arith, is.seq.1); place = omega (arith, is.place); payload = omega (arith, is.few); blocks = omega (arith, is.few); bytes = omega (arith, is.few); commit = omega (arith, is.commit.1); tail = is.tail; root = is.root; prev = is.prev; digest = length-replicate {A = ℕ} 32 0 };
  metadata = record {
    few = (omega (arith, is.few, length-map body.placed mark_of), omega (arith, is.few, (few_listed body).0), omega (arith, is.few, (few_listed body).1));
    marks = All-map IsMark mark_of body.placed marks;
    dropped = dropped;
    changes = changes;
    plain_alone = λ e. listed_is body ∙ plain_alone body.kind r.commit.0 body is.kind e;
    no_plain = no_plain body.kind r.commit.0 body is.kind;
    is = metadata_is body;
  };
  placed = λ k d within. (is.placed k d within).block;
  nodes = is.nodes;
  few = is.few;
}
  where
    body : Body
    body = r.body

    marks : All (λ p. IsMark (mark_of p)) body.placed
    marks k d within = record {
      at = omega (arith, is.root.next.1, (is.addresses.given.0 k 0 (omega (arith, length-map body.placed (λ (p : Placed). p.at.0)))).1, get_or-map (λ (p : Placed). p.at.0) body.placed k d 0 within);
      version = version_small body.kind r.commit.0 body is.kind is.commit.1 k d within;
      sum = (is.placed k d within).sum.0;
    }

    dropped : All IsAddress body.dropped
    dropped k d within =
        omega (arith, is.root.next.1, (is.addresses.given.1 k 0 (omega (arith, length-map body.dropped (λ (a : Laddr). a.0)))).1, get_or-map (λ (a : Laddr). a.0) body.dropped k d 0 within)

    changes : All IsListed body.changes
    changes k d within = record {
      at = omega (arith, is.root.next.1, (is.addresses.given.2 k 0 (omega (arith, length-map body.changes (λ (c : Change). c.at.0)))).1, get_or-map (λ (c : Change). c.at.0) body.changes k d 0 within);
      splice = is.changes k d within;
    }

-- what has room and keeps the rules is a record
pub record_is : (r : Record) → Fits r → HasNumbers r → IsOfKind r.body.kind r.commit.0 r.body → All HasSum r.body.placed → HasAddresses r.root.next.0 r.body → IsRecord r
record_is r fits numbers kind sums addresses = record {
  mount = numbers.mount;
  seq = numbers.seq;
  place = numbers.place;
  commit = numbers.commit;
  tail = fits.header.tail;
  root = fits.header.root;
  prev = fits.header.prev;
  kind = kind;
  placed = λ k d within. record { block = fits.placed k d within; sum = ((mark k d within).sum, sums k d within) };
  nodes = fits.nodes;
  changes = λ k d within. (fits.metadata.changes k d within).splice;
  addresses = addresses;
  few = fits.few;
}
  where
    mark : (k : ℕ) (d : Placed) → k < length r.body.placed → IsMark (mark_of (get_or r.body.placed k d))
    mark k d within =
        subst IsMark (get_or-map mark_of r.body.placed k d (mark_of d) within) (fits.metadata.marks k (mark_of d) (omega (arith, length-map r.body.placed mark_of)))
