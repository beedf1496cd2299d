-- Plain bodies may go into records.
use Rattle.std.proofs.Common.{◌≡◌, ℕ, ◌≤◌, List, [], length, refl, sym, ap, ◌∙◌, subst, arith}
use Rattle.sea_base.specs.declared.place.Laddr.{Laddr}
use Rattle.sea_record.specs.Record.{metadata}
use Rattle.sea_record.specs.declared.record.Body.{Body}
use Rattle.sea_record.specs.declared.record.Change.{Change}
use Rattle.sea_record.specs.declared.record.Kind.{Kind}
use Rattle.sea_record.specs.declared.record.Kind.TheVariants.{Plain}
use Rattle.sea_record.specs.declared.record.Placed.{Placed}
use Rattle.sea_journal_trial.specs.Bodies.{MayGo}

-- a body that lists nothing, by what it is
made : List Placed → List (List ℕ) → List Laddr → List Change → List ℕ → Body
made placed nodes dropped changes plain = record {
  kind = Plain;
  placed = placed;
  nodes = nodes;
  dropped = dropped;
  changes = changes;
  plain = plain;
}

plain_goes : (plain : List ℕ) → 1 ≤ length plain → length plain ≤ 4190208 → (commit next : ℕ)
    → MayGo commit next (made [] [] [] [] plain)
unfolding made metadata
plain_goes plain some few commit next = record {
  kind = record { some = some; listed = refl; nodes = refl };
  placed = λ k d lt. absurd (omega arith);
  nodes = λ k d lt. absurd (omega arith);
  changes = λ k d lt. absurd (omega arith);
  addresses = record {
    rise = (λ i j lt below. absurd (omega arith), λ i j lt below. absurd (omega arith), λ i j lt below. absurd (omega arith));
    given = (λ k d lt. absurd (omega arith), λ k d lt. absurd (omega arith), λ k d lt. absurd (omega arith));
    apart = (λ i j lt below. absurd (omega arith), λ i j lt below. absurd (omega arith), λ i j lt below. absurd (omega arith));
  };
  few = omega arith;
}

-- a plain body of as many bytes as a record takes
pub plain_is : (body : Body) → body.kind ≡ Plain → body.placed ≡ [] → body.nodes ≡ []
    → body.dropped ≡ [] → body.changes ≡ [] → 1 ≤ length body.plain
    → length body.plain ≤ 4190208 → (commit next : ℕ) → MayGo commit next body
unfolding made
plain_is body kind placed nodes dropped changes some few commit next =
    let same : made [] [] [] [] body.plain ≡ body =
    ap (λ (x : Kind). record { kind = x; placed = []; nodes = []; dropped = []; changes = []; plain = body.plain }) (sym kind)
    ∙ ap (λ (x : List Placed). record { kind = body.kind; placed = x; nodes = []; dropped = []; changes = []; plain = body.plain }) (sym placed)
    ∙ ap (λ (x : List (List ℕ)). record { kind = body.kind; placed = body.placed; nodes = x; dropped = []; changes = []; plain = body.plain }) (sym nodes)
    ∙ ap (λ (x : List Laddr). record { kind = body.kind; placed = body.placed; nodes = body.nodes; dropped = x; changes = []; plain = body.plain }) (sym dropped)
    ∙ ap (λ (x : List Change). record { kind = body.kind; placed = body.placed; nodes = body.nodes; dropped = body.dropped; changes = x; plain = body.plain }) (sym changes) in
    subst (MayGo commit next) same (plain_goes body.plain some few commit next)
