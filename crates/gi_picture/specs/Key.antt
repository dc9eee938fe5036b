-- What the fills, the hatches and the letters of the charts mean.
use Rattle.std.specs.Prelude.{ℕ, List, [], ◌++◌, codes, Bool, ◌||◌, nat_eq, if◌then◌else◌}
use Rattle.gi_pairs.specs.declared.direction.Direction.TheVariants.{IM, MI}
use Rattle.gi_picture.specs.Axis.{prefix_size}
use Rattle.gi_picture.specs.Heights.{direction_scale, net_scale}
use Rattle.gi_picture.specs.declared.hour.Hour.{Hour}

-- whether the prefix of this size stands on an axis
abbrev pub is_used : List Hour → ℕ → Bool
is_used hours size =
    nat_eq (prefix_size (direction_scale IM hours).step) size || (nat_eq (prefix_size (direction_scale MI hours).step) size || nat_eq (prefix_size (net_scale hours).step) size)

unfoldable pub word_if : List Hour → ℕ → List ℕ → List ℕ
word_if hours size word = if is_used hours size then word else []

unfoldable pub letters : List Hour → List ℕ
letters hours =
    word_if hours 1_000 (codes "; k is a thousand") ++ (word_if hours 1_000_000 (codes "; M is a million") ++ (word_if hours 1_000_000_000 (codes "; G is a thousand million")
    ++ word_if hours 1_000_000_000_000 (codes "; T is a million million")))

unfoldable pub swatch : List ℕ → List ℕ → List ℕ
swatch class word =
    codes "<span><svg class=\"in\" viewBox=\"0 0 24 12\" width=\"24\" height=\"12\" aria-hidden=\"true\"><path class=\"" ++ (class ++ (codes " rim\" d=\"M1 1H23V11H1z\"/></svg> " ++ (word ++ codes "</span>")))

unfoldable pub swatches : List ℕ
swatches = swatch (codes "force") (codes "in force") ++ (codes ", " ++ (swatch (codes "bypeer") (codes "cut by the peer") ++ (codes ", " ++ swatch (codes "byown") (codes "cut by own capacity"))))

unfoldable pub words : List Hour → List ℕ
words hours = codes "The lower is taken pair by pair, so a sum in force can lie below both processed sums. Each chart has its own axis" ++ (letters hours ++ codes ".")

unfoldable pub chart_key : List Hour → List ℕ
chart_key hours = codes "<p class=\"dim key\">" ++ (swatches ++ (codes ". " ++ (words hours ++ codes "</p>\n")))

-- what the peer cuts is hatched across, what own capacity cuts aslant
unfoldable pub chart_defs : List ℕ
chart_defs = codes "<svg class=\"void\" aria-hidden=\"true\"><defs><pattern id=\"own\" width=\"6\" height=\"6\" patternUnits=\"userSpaceOnUse\"><path class=\"hatch\" d=\"M-1 1L1 -1M0 6L6 0M5 7L7 5\"/></pattern><pattern id=\"peer\" width=\"5\" height=\"5\" patternUnits=\"userSpaceOnUse\"><path class=\"hatch\" d=\"M0 2H5\"/></pattern></defs></svg>\n"
