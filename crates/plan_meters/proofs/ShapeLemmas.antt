-- The presence of readings, by their table.
use Rattle.std.proofs.Common.{◌≡◌, ℕ, Bool, false, List, [], length, map, get_or, sym, ap, ◌∙◌}
use Rattle.std.specs.Prelude.{Option, None, is_some}
use Rattle.std.proofs.lemmas.List.{length-map}
use Rattle.std.proofs.Math.ListN.{get_or-map}
use Rattle.group_plan.specs.Tables.{ReadingsView, reading, IsReadingTable, is_present, IsPresenceTable, presence_of}

pub present_is : (readings : ReadingsView) (g r i : ℕ) → is_present (presence_of readings).table g r i ≡ is_some (reading readings.table g r i)
present_is readings g r i =
    ap (λ t. get_or (get_or t r []) i false) (get_or-map (map (map is_some)) readings.table g [])
    ∙ ap (λ t. get_or t i false) (get_or-map (map is_some) (get_or readings.table g []) r [])
    ∙ get_or-map is_some (get_or (get_or readings.table g []) r []) i None

-- the presence of readings is one of members
pub presence-table : (readings : ReadingsView) → IsReadingTable readings.plan readings.table → IsPresenceTable (presence_of readings).plan (presence_of readings).table
presence-table readings table =
    let F : List (List (Option ℕ)) → List (List Bool) = map (map is_some) in
    let group : (g : ℕ) → get_or (map F readings.table) g [] ≡ F (get_or readings.table g []) = λ g. get_or-map F readings.table g [] in
    record {
      shape = record {
        groups = length-map readings.table F ∙ table.shape.groups;
        rounds = λ g g_in. ap length (group g) ∙ length-map (get_or readings.table g []) (map is_some) ∙ table.shape.rounds g g_in;
        meters = λ g r g_in r_in. ap (λ t. length (get_or t r [])) (group g) ∙ ap length (get_or-map (map is_some) (get_or readings.table g []) r [])
            ∙ length-map (get_or (get_or readings.table g []) r []) is_some ∙ table.shape.meters g r g_in r_in;
      };
      of_members = λ g r i present. table.of_members g r i (sym (present_is readings g r i) ∙ present);
    }
