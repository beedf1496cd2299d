-- What crashes leave: prefixes of a trail's new records, and of the history that they are of.
use Rattle.std.proofs.Common.{◌≡◌, ℕ, suc, ◌+◌, ◌-◌, ◌*◌, ◌≤◌, List, [], ◌∷◌, ◌++◌, length, take, replicate, refl, sym, ap, ◌∙◌, subst, inl, inr, arith, length-append}
use Rattle.std.specs.Prelude.{Option, Some, None, map, slice_get, unwrap_or, IfNone, IsSome}
use Rattle.std.specs.FinMap as map
use Rattle.std.proofs.lemmas.Bool.{cases_lt}
use Rattle.std.proofs.lemmas.Grind.{flat_map-append}
use Rattle.std.proofs.lemmas.List.{append-nil, length-map, map-append, take-append-le, take_all}
use Rattle.sea_plain.specs.declared.op.Op.{Op}
use Rattle.sea_plain.specs.declared.reply.Reply.{Reply}
use Rattle.sea_plain.specs.declared.reply.Reply.TheVariants.{Done, Full}
use Rattle.sea_plain.specs.Answer.{answer}
use Rattle.sea_plain.specs.Objects.{ObjectMap}
use Rattle.sea_plain_script.specs.declared.plan.Asked.{Asked}
use Rattle.sea_plain_script.specs.declared.history.Entry.{Entry}
use Rattle.sea_top.specs.declared.record.Piece.{Piece}
use Rattle.sea_top.specs.declared.record.PlainRecord.{PlainRecord}
use Rattle.sea_top.specs.Crash.{IsClear, IsClearBehind, Crashes, IsLog, SameFront, OpensToPrefix, answered_by, log_of, log_pieces, record_of}
use Rattle.sea_top.specs.declared.refusal.Refusal.{Refusal}
use Rattle.sea_top.specs.Headline.{KeepsObjects}
use Rattle.sea_top.specs.History.{Legal, requests_of, none}
use Rattle.sea_top.specs.Pieces.{pieces_asked}
use Rattle.sea_top.specs.Record.{blocks_of, digest_of}
use Rattle.sea_top.specs.Trail.{IsChain, IsTrail, Linked, Opens, after_pieces, chain_end, last_digest, objects_of, pieces_of}
use Rattle.sea_top.proofs.AskedPieces.{after_pieces-append}
use Rattle.sea_top.proofs.Chains.{chain_end-ge, kept_record}
use Rattle.sea_top.proofs.Moments.{KeepsFront}

-- the objects of a trail that grew
pub objects_of-append : (records more : List PlainRecord) → objects_of (records ++ more) ≡ after_pieces (pieces_of more) (objects_of records)
objects_of-append records more =
    ap (λ (p : List Piece). after_pieces p map.empty) (flat_map-append (λ (plain : PlainRecord). plain.pieces) records more) ∙ after_pieces-append (pieces_of records) (pieces_of more) map.empty

-- a clear image has a chain of the first of the records
clear_chain : (image : List ℕ) (place commit : ℕ) (previous : List ℕ) (news : List PlainRecord) → Linked commit previous news → IsClear image place commit previous news → (j : ℕ) × (j ≤ length news) × IsChain image place commit previous (take j news)
clear_chain image place commit previous [] linked clear = (0, omega arith, clear)
clear_chain image place commit previous (plain ∷ news) linked (inl stands) =
    let rest = clear_chain image (place + blocks_of plain.pieces) (commit + 1) (digest_of plain) news linked.3 stands.1 in
    (suc rest.0, omega (arith, rest.1), (record { stands = stands.0; numbered = linked.1; linked = linked.2 }, rest.2))
clear_chain image place commit previous (plain ∷ news) linked (inr stops) = (0, omega arith, stops.1)

-- a chain whose blocks keep their bytes goes on by the chain behind it
kept_chain : (image other : List ℕ) (place commit : ℕ) (previous : List ℕ) (records more : List PlainRecord) → IsChain image place commit previous records → take (4096 * chain_end place records) other ≡ take (4096 * chain_end place records) image → IsChain other (chain_end place records) (commit + length records) (last_digest previous records) more → IsChain other place commit previous (records ++ more)
kept_chain image other place commit previous [] more chain same goes_on =
    subst (λ (n : ℕ). IsChain other place n previous more) (omega arith) goes_on
kept_chain image other place commit previous (plain ∷ records) more chain same goes_on =
    let next = place + blocks_of plain.pieces in (
      record { stands = kept_record image other place (chain_end next records) plain (chain_end-ge next records) same chain.0.stands; numbered = chain.0.numbered; linked = chain.0.linked },
      kept_chain image other next (commit + 1) (digest_of plain) records more chain.1 same (subst (λ (n : ℕ). IsChain other (chain_end next records) n (last_digest (digest_of plain) records) more) (omega arith) goes_on),
    )

-- A clear image with the blocks of a trail has the trail, and the first of the records behind it.
clear_trail : (image other : List ℕ) (records news : List PlainRecord) → IsTrail image records → SameFront (4096 * chain_end 0 records) image other → Linked (1 + length records) (last_digest (replicate 32 0) records) news → IsClearBehind records news other → (j : ℕ) × (j ≤ length news) × IsTrail other (records ++ take j news)
clear_trail image other records news trail same linked clear =
    let found = clear_chain other (chain_end 0 records) (1 + length records) (last_digest (replicate 32 0) records) news linked clear in
    (found.0, found.1, kept_chain image other 0 1 (replicate 32 0) records (take found.0 news) trail same found.2)

-- So it opens to the objects after the first entries of the history that the records are of.
pub clear_opens : (plan : List Asked) (image other : List ℕ) (records news : List PlainRecord) (history : List Entry) → IsTrail image records → Linked (1 + length records) (last_digest (replicate 32 0) records) news → IsLog plan (objects_of records) history news → SameFront (4096 * chain_end 0 records) image other → IsClearBehind records news other → OpensToPrefix plan (objects_of records) history 0 other
clear_opens plan image other records news history trail linked log same clear =
    let found = clear_trail image other records news trail same linked clear in
    let prefix = log.prefixes found.0 found.1 in
    record {
      entries = prefix.0;
      held = omega arith;
      within = prefix.1;
      objects = after_pieces (pieces_of (take found.0 news)) (objects_of records);
      legal = prefix.2;
      opens = record { records = records ++ take found.0 news; trail = found.2; objects_are = sym (objects_of-append records (take found.0 news)) };
    }

-- nothing is logged of no history
pub no_log : (plan : List Asked) (first : ObjectMap) → IsLog plan first [] []
no_log plan first = record {
  pieces = refl;
  prefixes = λ j le. (0, omega arith, subst (λ (news : List PlainRecord). Legal plan first [] (after_pieces (pieces_of news) first)) (sym (take_all j [] (omega arith))) none);
}

-- the log of one entry more, which has a record or none
pub log_more : (plan : List Asked) (first : ObjectMap) (entries : List Entry) (news : List PlainRecord) (entry : Entry) (request : List Op) (more : List PlainRecord) → IsLog plan first entries news → slice_get (requests_of entry.client plan) (entry.number - 1) ≡ Some request → map (λ plain. plain.pieces) more ≡ log_of entry.reply request → length more ≤ 1 → Legal plan first (entries ++ entry ∷ []) (after_pieces (pieces_of (news ++ more)) first) → IsLog plan first (entries ++ entry ∷ []) (news ++ more)
log_more plan first entries news entry request more log found own short legal = record {
  pieces =
      let here : log_of entry.reply request ≡ log_pieces plan (entry ∷ []) =
      ap (λ (o : Option (List Op)). log_of entry.reply (unwrap_or o [])) (sym found) ∙ sym (append-nil (log_of entry.reply (answered_by plan entry))) in
      map-append (λ (plain : PlainRecord). plain.pieces) news more ∙ ap (λ (r : List (List Piece)). r ++ map (λ (plain : PlainRecord). plain.pieces) more) log.pieces ∙ ap (λ (r : List (List Piece)). log_pieces plan entries ++ r) (own ∙ here) ∙ sym (flat_map-append (λ (e : Entry). log_of e.reply (answered_by plan e)) entries (entry ∷ []));
  prefixes = λ j le. elim (cases_lt (length news) j) [
    | inr ge ↦
        let before = log.prefixes j ge in (
          before.0,
          omega (arith, before.1, length-append entries (entry ∷ [])),
          rw (take-append-le j news more ge, take-append-le before.0 entries (entry ∷ []) before.1) before.2,
        )
    | inl lt ↦
        let all : length (news ++ more) ≤ j = omega (arith, length-append news more) in (
          length (entries ++ entry ∷ []),
          omega arith,
          rw (take_all j (news ++ more) all, take_all (length (entries ++ entry ∷ [])) (entries ++ entry ∷ []) (omega arith)) legal,
        )
  ];
}

short_record : (pieces : List Piece) → length (record_of pieces) ≤ 1
short_record [] = omega arith
short_record (piece ∷ pieces) = omega arith

short_log : (reply : Reply) (request : List Op) → length (log_of reply request) ≤ 1
short_log (Done items) request = short_record (pieces_asked request)
short_log (Full need rest empty) request = omega arith

-- a record or none
pub few_logged : (entry : Entry) (request : List Op) (more : List PlainRecord) → map (λ plain. plain.pieces) more ≡ log_of entry.reply request → length more ≤ 1
few_logged entry request more own =
    omega (arith, sym (length-map more (λ (plain : PlainRecord). plain.pieces)) ∙ ap length own, short_log entry.reply request)

-- a request that writes nothing has no record
pub none_logged : (reply : Reply) (request : List Op) → pieces_asked request ≡ [] → [] ≡ log_of reply request
none_logged (Done items) request nothing = ap record_of (sym nothing)
none_logged (Full need rest empty) request nothing = refl

one_record : (pieces : List Piece) → 1 ≤ length pieces → pieces ∷ [] ≡ record_of pieces
one_record [] some = absurd (omega arith)
one_record (piece ∷ pieces) some = refl

-- and one that writes and was done has one
pub one_logged : (reply : Reply) (request : List Op) (objects : ObjectMap) (pieces : List Piece) → reply ≡ answer request objects → pieces ≡ pieces_asked request → 1 ≤ length pieces → pieces ∷ [] ≡ log_of reply request
one_logged reply request objects pieces is asked some =
    one_record pieces some ∙ ap record_of asked ∙ ap (λ (r : Reply). log_of r request) (sym is)

-- a full prefix
whole_prefix : (plan : List Asked) (first last : ObjectMap) (history : List Entry) (least : ℕ) (image : List ℕ) → Legal plan first history last → least ≤ length history → Opens image last → OpensToPrefix plan first history least image
whole_prefix plan first last history least image legal within opens = record {
  entries = length history;
  held = within;
  within = omega arith;
  objects = last;
  legal = rw (take_all (length history) history (omega arith)) legal;
  opens = opens;
}

-- What the crashes of a run leave, where each image keeps the front of the one that was opened.
pub run_crashes : (plan : List Asked) (image : List ℕ) (records news : List PlainRecord) (history : List Entry) (acknowledged : ℕ) (ending : Option Refusal) (contents : Option (List ℕ)) (leaves before : List ℕ → Type 0) (start now : ℕ) (since : ℕ → List ℕ → Type 0) (last : ObjectMap) → IsTrail image records → Linked (1 + length records) (last_digest (replicate 32 0) records) news → IsLog plan (objects_of records) history news → Legal plan (objects_of records) history last → IfNone ending (acknowledged ≡ length history) → (IsSome ending → acknowledged ≡ 0)
    → KeepsFront (4096 * chain_end 0 records) image before start now since → ((c : List ℕ) → leaves c → SameFront (4096 * chain_end 0 records) image c) → ((b : List ℕ) → contents ≡ Some b → SameFront (4096 * chain_end 0 records) image b) → (ending ≡ None → KeepsObjects contents leaves last) → Crashes image plan (objects_of records) history acknowledged contents leaves before start now since
run_crashes plan image records news history acknowledged ending contents leaves before start now since last trail linked log legal acked unacked moments images bytes kept =
    let opens : (c : List ℕ) → SameFront (4096 * chain_end 0 records) image c → IsClearBehind records news c → OpensToPrefix plan (objects_of records) history 0 c = λ c. clear_opens plan image c records news history trail linked log in
    record {
      records = records;
      trail = trail;
      news = news;
      linked = linked;
      logged = log.pieces;
      opened = moments.opened;
      after_start = moments.after_start;
      before_return = moments.before_return;
      opening = moments.opening;
      moments = λ c left. opens c (moments.moments c left);
      returned = λ c left clear. least ending acknowledged c acked unacked (λ none. (kept none).crash c left) (opens c (images c left) clear);
      bytes = λ b is clear. least ending acknowledged b acked unacked (λ none. held b (kept none) is) (opens b (bytes b is) clear);
    }
  where
    held : (b : List ℕ) → KeepsObjects contents leaves last → contents ≡ Some b → Opens b last
    held b keeps is =
        let same : keeps.image ≡ b = cc (keeps.held, is) in subst (λ (i : List ℕ). Opens i last) same keeps.opens

    least : (ending : Option Refusal) (acknowledged : ℕ) (c : List ℕ) → IfNone ending (acknowledged ≡ length history) → (IsSome ending → acknowledged ≡ 0) → (ending ≡ None → Opens c last) → OpensToPrefix plan (objects_of records) history 0 c → OpensToPrefix plan (objects_of records) history acknowledged c
    least None acknowledged c acked unacked kept prefix =
        whole_prefix plan (objects_of records) last history acknowledged c legal (omega arith) (kept refl)
    least (Some refusal) acknowledged c acked unacked kept prefix =
        rw (unacked refl) prefix
