use Rattle.std.proofs.Common.{◌≡◌, [], unwrap_or, rules, ap, sym, ◌∙◌}
use Rattle.std.specs.Option.{option_copied}
use Rattle.std.specs.FinMap as map
use Rattle.sea_plain.specs.Answer.{written}
use Rattle.sea_plain.specs.Objects.{ObjectMap, ObjectValue, object_at}
use Rattle.sea_plain.specs.Scan.{objects_of, newest}
use Rattle.sea_plain.proofs.Scan.{plain_object, object_newest}
use Rattle.sea_plain.proofs.plain.Plain.write.Goals as goal

pub returns-clause-effect : goal.returns-clause-effect
returns-clause-effect c =
    let name = c.args.name.now in
    let before = c.self.inside.written.items in
    let wrote : ObjectValue → ObjectValue = λ o. record o { bytes = written c.args.offset c.args.bytes.now o.bytes } in
    let scanned : c.unwrap_or-old.result.now ≡ unwrap_or (option_copied c.bytes_of.result) [] = search rules in
    let old : c.unwrap_or-old.result.now ≡ unwrap_or (newest name before) [] = scanned ∙ ap (λ found. unwrap_or found []) (c.bytes_of.ensures ∙ ap (newest name) c.as_slice.ensures.value) in
    let new : plain_object c.in_ok-new.new ≡ wrote (plain_object (unwrap_or (newest name before) [])) =
    ap plain_object (c.in_ok-new.ensures ∙ c.in_ok-write.ensures ∙ ap (written c.args.offset c.args.bytes.now) old) in
    ap objects_of c.in_ok-insert.ensures.items
    ∙ ap (λ key. map.insert (objects_of before) key (plain_object c.in_ok-new.new)) c.in_ok-copy.ensures
    ∙ ap (map.insert (objects_of before) name) (new ∙ ap wrote (sym (object_newest before name)))
    ∙ ap (λ (m : ObjectMap). map.insert m name (wrote (object_at m name))) c.self.view_is
