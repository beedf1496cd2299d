-- The records of a trail rise.
use Rattle.std.proofs.Common.{◌≡◌, ℕ, ◌+◌, ◌*◌, ◌<◌, ◌≤◌, List, [], ◌∷◌, ◌++◌, drop, refl, sym, ap, ◌∙◌, subst, arith, append_assoc}
use Rattle.std.specs.List.{AllByRecursion}
use Rattle.sea_record.specs.Record.{blocks}
use Rattle.sea_record.specs.declared.record.Record.{Record}
use Rattle.sea_trail.specs.declared.link.Link.{Link}
use Rattle.sea_trail.specs.declared.trail.Part.{Part}
use Rattle.sea_trail.specs.declared.trail.Trail.{Trail}
use Rattle.sea_trail.specs.Trail.{IsTrail, IsChain, HasChain, AreParts, AreLinked, AreFrom, FollowOn, records_in, header_link, last_link, link_of, body_of, first_block}
use Rattle.sea_engine.specs.Opens.{AreRising}
use Rattle.sea_engine.specs.Replay.{last_number}
use Rattle.sea_engine.proofs.Making.{rising_from}

-- one more
pub last_push : (number : ℕ) (rs : List Record) (r : Record) → last_number number (rs ++ r ∷ []) ≡ r.commit.0
last_push number [] r = refl
last_push number (x ∷ rs) r = last_push x.commit.0 rs r

rising_both : (number : ℕ) (xs ys : List Record) → AreRising number xs → AreRising (last_number number xs) ys → AreRising number (xs ++ ys)
rising_both number [] ys first then = then
rising_both number (x ∷ xs) ys first then = (first.0, rising_both x.commit.0 xs ys first.1 then)

rising_behind : (number : ℕ) (xs ys : List Record) → AreRising number (xs ++ ys) → AreRising (last_number number xs) ys
rising_behind number [] ys rising = rising
rising_behind number (x ∷ xs) ys rising = rising_behind x.commit.0 xs ys rising.1

chain_rising : (bytes : List ℕ) (place seq : ℕ) (link : Link) (rs : List Record) → IsChain bytes place seq link rs → AreRising link.commit.0 rs
chain_rising bytes place seq link [] chain = tt
chain_rising bytes place seq link (r ∷ rs) chain =
    let next = chain.0.commit in
    (omega (arith, next), chain_rising (drop (4096 * blocks r.body) bytes) (place + blocks r.body) seq (link_of r) rs chain.1)

last_is : (link : Link) (rs : List Record) → (last_link link rs).commit.0 ≡ last_number link.commit.0 rs
last_is link [] = refl
last_is link (r ∷ rs) = last_is (link_of r) rs

part_rising : (image : List ℕ) (p : Part) → HasChain image p → AreRising p.header.commit.0 p.records
part_rising image p has = chain_rising (body_of image p.header.segment) (first_block p.header.segment) p.header.seq (header_link p.header) p.records has.chain

part_last : (image : List ℕ) (p : Part) → HasChain image p → p.last.commit.0 ≡ last_number p.header.commit.0 p.records
part_last image p has = ap (λ l. l.commit.0) has.last ∙ last_is (header_link p.header) p.records

parts_rising : (image : List ℕ) (link : Link) (ps : List Part) → AllByRecursion (HasChain image) ps → FollowOn link ps → AreRising link.commit.0 (records_in ps)
parts_rising image link [] chains follow = tt
parts_rising image link (p ∷ ps) chains follow =
    let rest = parts_rising image p.last ps chains.1 follow.1 in
    let here = rising_both p.header.commit.0 p.records (records_in ps) (part_rising image p chains.0) (subst (λ n. AreRising n (records_in ps)) (part_last image p chains.0) rest) in
    subst (λ n. AreRising n (p.records ++ records_in ps)) follow.0.commit here

all_chains : (image : List ℕ) (segments seq : ℕ) (closed : List Part) (newest : Part) → AreParts image segments seq closed → HasChain image newest → AllByRecursion (HasChain image) (closed ++ newest ∷ [])
all_chains image segments seq [] newest parts chain = (chain, tt)
all_chains image segments seq (p ∷ ps) newest parts chain = (parts.1, all_chains image segments (seq + 1) ps newest parts.2 chain)

from_rising : (image : List ℕ) (place : ℕ) (ps : List Part) (records : List Record) → AllByRecursion (HasChain image) ps → AreLinked ps → AreFrom place ps records → AreRising 0 records
from_rising image place [] records chains linked from = absurd from
from_rising image place (p ∷ ps) records chains linked from =
    let before = from.0 in
    let after = from.1 in
    let rest = parts_rising image p.last ps chains.1 linked in
    let all : AreRising p.header.commit.0 (p.records ++ records_in ps) = rising_both p.header.commit.0 p.records (records_in ps) (part_rising image p chains.0) (subst (λ n. AreRising n (records_in ps)) (part_last image p chains.0) rest) in
    let cut : p.records ++ records_in ps ≡ before ++ (after ++ records_in ps) = ap (λ rs. rs ++ records_in ps) from.2 ∙ append_assoc before after (records_in ps) in
    let behind = rising_behind p.header.commit.0 before (after ++ records_in ps) (subst (AreRising p.header.commit.0) cut all) in
    rising_from 0 (last_number p.header.commit.0 before) records (omega arith) (subst (AreRising (last_number p.header.commit.0 before)) (sym from.4) behind)

pub trail_rising : (image : List ℕ) (t : Trail) → IsTrail image t → AreRising 0 t.records
trail_rising image t is =
    from_rising image t.tail.place.0 (is.closed ++ is.newest ∷ []) t.records
    (all_chains image t.segments is.newest.last.tail.seq is.closed is.newest is.are_closed.parts is.is_open.chain) is.linked is.records
