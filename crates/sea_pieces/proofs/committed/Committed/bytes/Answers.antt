use Rattle.std.proofs.Common.{Some, List, ℕ, sym, ap, ◌∙◌}
use Rattle.std.specs.Prelude.{option_map}
use Rattle.std.specs.FinMap as map
use Rattle.sea_object.proofs.Lookups.{get_entry}
use Rattle.sea_pieces.specs.declared.committed.Version.{Version}
use Rattle.sea_pieces.proofs.committed.Committed.bytes.Goals as goal

pub returns-in-Some-clause-bytes : goal.returns-in-Some-clause-bytes
returns-in-Some-clause-bytes c =
    ap (λ (b : List ℕ). Some b) c.bytes.ensures.bytes
    ∙ ap (option_map (λ (v : Version). v.content)) (c.in-Some.ensures.value ∙ sym (get_entry c.self.inside.versions.entries c.args.name.now) ∙ ap (λ m. map.get m c.args.name.now) c.self.view_is)

pub returns-in-None-clause-bytes : goal.returns-in-None-clause-bytes
returns-in-None-clause-bytes c =
    ap (option_map (λ (v : Version). v.content)) (c.in-None.ensures.value ∙ sym (get_entry c.self.inside.versions.entries c.args.name.now) ∙ ap (λ m. map.get m c.args.name.now) c.self.view_is)
