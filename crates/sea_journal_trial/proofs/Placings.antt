-- Blocks placed one after the other.
use Rattle.std.proofs.Common.{◌≡◌, ℕ, ◌+◌, ◌<◌, List, [], ◌∷◌, length, map, get_or, refl, sym, ap, ◌∙◌, subst, arith}
use Rattle.std.proofs.lemmas.List.{get_or-map, length-map}
use Rattle.sea_base.specs.declared.place.Laddr.{Laddr}
use Rattle.sea_record.specs.declared.record.Body.{Body}
use Rattle.sea_record.specs.declared.record.Change.{Change}
use Rattle.sea_record.specs.declared.record.Kind.{Kind}
use Rattle.sea_record.specs.declared.record.Kind.TheVariants.{Client}
use Rattle.sea_record.specs.declared.record.Placed.{Placed}
use Rattle.sea_record.proofs.MetadataLengths.{length-metadata}
use Rattle.sea_journal_trial.specs.Bodies.{ArePlaced, MayGo}

-- the address of one
at_is : (commit n : ℕ) (xs : List Placed) (d : Placed) → ArePlaced commit n xs → (k : ℕ) (e : ℕ)
    → k < length xs → get_or (map (λ (p : Placed). p.at.0) xs) k e ≡ k + 1
at_is commit n xs d are k e lt =
    get_or-map (λ (p : Placed). p.at.0) xs k d e lt ∙ (are.each k d lt).at

-- the body that places them
client : List Placed → List (List ℕ) → List Laddr → List Change → List ℕ → Body
client placed nodes dropped changes plain = record {
  kind = Client;
  placed = placed;
  nodes = nodes;
  dropped = dropped;
  changes = changes;
  plain = plain;
}

client_goes : (commit : ℕ) (placed : List Placed) (plain : List ℕ) → ArePlaced commit 17 placed
    → length plain ≡ 0 → MayGo commit 1000 (client placed [] [] [] plain)
unfolding client
client_goes commit [] plain are none = absurd (omega (arith, are.many))
client_goes commit (x ∷ xs) plain are none =
    let placed = x ∷ xs in
    let body = client placed [] [] [] plain in
    let many : length placed ≡ 17 = are.many in
    let addresses = length-map placed (λ (p : Placed). p.at.0) in
    record {
      kind = record { some = omega (arith, many); versions = λ k d lt. (are.each k d lt).version; nodes = refl; plain = none };
      placed = λ k d lt. (are.each k d lt).fits;
      nodes = λ k d lt. absurd (omega arith);
      changes = λ k d lt. absurd (omega arith);
      addresses = record {
        rise = (
          λ i j lt below. omega (arith, addresses, at_is commit 17 placed x are i 0 (omega (arith, addresses)), at_is commit 17 placed x are j 0 (omega (arith, addresses))),
          λ i j lt below. absurd (omega arith),
          λ i j lt below. absurd (omega arith),
        );
        given = (
          λ k e lt. (
            omega (arith, at_is commit 17 placed x are k e (omega (arith, addresses))),
            omega (arith, many, addresses, at_is commit 17 placed x are k e (omega (arith, addresses))),
          ),
          λ k d lt. absurd (omega arith),
          λ k d lt. absurd (omega arith),
        );
        apart = (λ i j lt below. absurd (omega arith), λ i j lt below. absurd (omega arith), λ i j lt below. absurd (omega arith));
      };
      few = omega (arith, many, length-metadata body (omega (arith, many)));
    }

pub client_is : (commit : ℕ) (body : Body) → body.kind ≡ Client → body.nodes ≡ []
    → body.dropped ≡ [] → body.changes ≡ [] → length body.plain ≡ 0
    → ArePlaced commit 17 body.placed → MayGo commit 1000 body
unfolding client
client_is commit body kind nodes dropped changes plain are =
    let same : client body.placed [] [] [] body.plain ≡ body =
    ap (λ (x : Kind). record { kind = x; placed = body.placed; nodes = []; dropped = []; changes = []; plain = body.plain }) (sym kind)
    ∙ ap (λ (x : List (List ℕ)). record { kind = body.kind; placed = body.placed; nodes = x; dropped = []; changes = []; plain = body.plain }) (sym nodes)
    ∙ ap (λ (x : List Laddr). record { kind = body.kind; placed = body.placed; nodes = body.nodes; dropped = x; changes = []; plain = body.plain }) (sym dropped)
    ∙ ap (λ (x : List Change). record { kind = body.kind; placed = body.placed; nodes = body.nodes; dropped = body.dropped; changes = x; plain = body.plain }) (sym changes) in
    subst (MayGo commit 1000) same (client_goes commit body.placed body.plain are plain)
