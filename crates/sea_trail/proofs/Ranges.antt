-- What a scan reads is in range, whatever the device tells.
use Rattle.std.proofs.Common.{◌≡◌, ℕ, ◌+◌, ◌*◌, ◌<◌, ◌≤◌, List, [], ◌∷◌, length, drop, sym, ap, subst, arith}
use Rattle.std.proofs.lemmas.List.{length-drop}
use Rattle.sea_record.specs.Record.{IsRecord, blocks}
use Rattle.sea_record.specs.declared.record.Record.{Record}
use Rattle.sea_segment.specs.Header.{IsHeader}
use Rattle.sea_segment.specs.Superblock.{IsSegmentCount}
use Rattle.sea_segment.specs.declared.header.Header.{Header}
use Rattle.sea_base.specs.declared.place.Paddr.{Paddr}
use Rattle.sea_trail.specs.declared.link.Link.{Link}
use Rattle.sea_trail.specs.declared.survey.Found.{Found}
use Rattle.sea_trail.specs.declared.trail.Part.{Part}
use Rattle.sea_trail.specs.declared.trail.Trail.{Trail}
use Rattle.sea_trail.specs.Trail.{IsChain, blocks_needed, chain_end, first_block, header_link, last_link, link_of}
use Rattle.sea_trail.specs.Parts.{IsPartOf}
use Rattle.sea_trail.specs.Ranges.{HasFieldsOf, IsInRange, LinkInRange, PartInRange}
use Rattle.sea_trail.proofs.Chains.{within}

record_link : (r : Record) → IsRecord r → LinkInRange (link_of r)
record_link r is =
    record { mount = is.mount.1; commit = is.commit.1; tail = is.tail; root = is.root }

header_range : (h : Header) → IsHeader h → LinkInRange (header_link h)
header_range h is = record { mount = is.mount; commit = is.commit; tail = is.tail; root = is.root }

-- the last record of a chain hands on what is in range
last_range : (bytes : List ℕ) (place seq : ℕ) (link : Link) (rs : List Record) → LinkInRange link
    → IsChain bytes place seq link rs → LinkInRange (last_link link rs)
last_range bytes place seq link [] range chain = range
last_range bytes place seq link (r ∷ rs) range chain =
    last_range (drop (4096 * blocks r.body) bytes) (place + blocks r.body) seq (link_of r) rs
    (record_link r chain.0.stands.is_record) chain.1

-- a chain ends within its bytes
end_range : (bytes : List ℕ) (place seq : ℕ) (link : Link) (rs : List Record)
    → IsChain bytes place seq link rs
    → (place ≤ chain_end place rs) × (4096 * chain_end place rs ≤ 4096 * place + length bytes)
end_range bytes place seq link [] chain = (omega arith, omega arith)
end_range bytes place seq link (r ∷ rs) chain =
    let past = 4096 * blocks r.body in
    let rest = end_range (drop past bytes) (place + blocks r.body) seq (link_of r) rs chain.1 in
    let fits = within bytes r chain.0.stands in
    (omega (arith, rest.0), omega (arith, rest.1, fits, length-drop past bytes))

pub part_range : (found : Found) (bytes : List ℕ) (p : Part) → IsHeader found.header
    → found.link ≡ header_link found.header → length bytes ≡ 4096 * 2047 → IsPartOf found bytes p
    → PartInRange p
part_range found bytes p is link len part =
    let segment = found.header.segment in
    let first = first_block segment in
    let seq = found.header.seq in
    let same : p.header.segment ≡ segment = ap (λ (h : Header). h.segment) part.header in
    let ends = end_range bytes first seq found.link p.records part.chain in
    let range : LinkInRange found.link = subst LinkInRange (sym link) (header_range found.header is) in
    record {
      header = subst IsHeader (sym part.header) is;
      ends = (omega (arith, ends.0, part.ends, same), omega (arith, ends.1, part.ends, same, len));
      last = subst LinkInRange (sym part.last)
          (last_range bytes first seq found.link p.records range part.chain);
    }

-- and so is the trail whose open segment is such a one of so many on a device
pub in_range : (segments size : ℕ) (newest : Part) (t : Trail) → IsSegmentCount segments
    → blocks_needed segments ≤ size → newest.header.segment < segments → PartInRange newest
    → newest.last.tail.seq ≤ newest.header.seq → t.segments ≡ segments → HasFieldsOf newest t
    → IsInRange t size
in_range segments size newest t count room within range tail same fields =
    let place : t.end.0 ≡ newest.end.0 = ap (λ (p : Paddr). p.0) fields.ends in
    let tail_is : t.tail.seq ≡ newest.last.tail.seq = ap (λ (l : Link). l.tail.seq) fields.last in
    let active = fields.active in
    let seq = fields.seq in
    record {
      segments = subst IsSegmentCount (sym same) count;
      room = omega (arith, room, same);
      active = omega (arith, within, same, active);
      ends = (omega (arith, range.ends.0, place, active), omega (arith, range.ends.1, place, active));
      seq = (omega (arith, range.header.seq.0, seq), omega (arith, range.header.seq.1, seq));
      tail = omega (arith, tail, tail_is, seq);
      last = subst LinkInRange (sym fields.last) range.last;
    }
