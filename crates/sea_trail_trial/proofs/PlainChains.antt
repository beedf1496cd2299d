-- The chain of a segment, as the plain reader reads it.
use Rattle.std.proofs.Common.{◌≡◌, ℕ, List, sym, ap, ◌∙◌, subst}
use Rattle.sea_segment.specs.declared.header.Header.{Header}
use Rattle.sea_trail.specs.declared.link.Link.{Link}
use Rattle.sea_trail.specs.declared.survey.Found.{Found}
use Rattle.sea_trail.specs.declared.trail.Part.{Part}
use Rattle.sea_trail.specs.Parts.{IsPartOf}
use Rattle.sea_trail.specs.Trail.{HasChain, IsChain, body_of, chain_end, first_block, header_link, last_link}
use Rattle.sea_trail_trial.specs.Plain.{IsPartBehind}

-- a header with a link behind it
abbrev pub linked : Header → Link → Found
linked h link = record { header = h; link = link }

pub behind : (h : Header) (link : Link) (bytes : List ℕ) (p : Part) → IsPartOf (linked h link) bytes p → IsPartBehind h link bytes p
behind h link bytes p is = record { header = is.header; chain = is.chain; ends = is.ends; last = is.last }

-- the bytes behind a header, and what it hands on
pub has_chain : (image bytes : List ℕ) (h : Header) (link : Link) (p : Part) → bytes ≡ body_of image h.segment → link ≡ header_link h → IsPartBehind h link bytes p → HasChain image p
has_chain image bytes h link p bytes_are link_is is =
    let there : IsChain (body_of image h.segment) (first_block h.segment) h.seq link p.records = subst (λ (b : List ℕ). IsChain b (first_block h.segment) h.seq link p.records) bytes_are is.chain in
    let from : IsChain (body_of image h.segment) (first_block h.segment) h.seq (header_link h) p.records = subst (λ (l : Link). IsChain (body_of image h.segment) (first_block h.segment) h.seq l p.records) link_is there in
    record {
      chain = subst (λ (k : Header). IsChain (body_of image k.segment) (first_block k.segment) k.seq (header_link k) p.records) (sym is.header) from;
      ends = is.ends ∙ ap (λ (k : Header). chain_end (first_block k.segment) p.records) (sym is.header);
      last = is.last ∙ ap (λ (l : Link). last_link l p.records) link_is ∙ ap (λ (k : Header). last_link (header_link k) p.records) (sym is.header);
    }
