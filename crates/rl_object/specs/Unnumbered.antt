-- An object to which each operation comes as the newest.
use Rattle.std.specs.Prelude.{[]}
use Rattle.rl_objmodel.specs.Held.{HeldBody, Sum, Keys, Held}
use Rattle.rl_livemap.specs.Stamps.{unnumbered}

-- without the serials of its sites, and with place 0 and index 0 in those of its cells
abbrev pub unnumbered_body : HeldBody → HeldBody
unnumbered_body (Sum sum) = Sum sum
unnumbered_body (Keys cells) = Keys (unnumbered cells)

abbrev pub unnumbered_held : Held → Held
unnumbered_held held = record held { sites = []; body = unnumbered_body held.body }
