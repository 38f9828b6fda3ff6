-- A test that is made of several.
use mathlib.Core.Bool.{Bool, ◌&&◌}
use lib.Dec.{T}
use mir.Facts.{and_yes}

-- the parts of a test of four
pub four : (a b c d : Bool) → T (a && b && c && d) → T a × T b × T c × T d
four a b c d t =
    let abcd = and_yes (a && b && c) d t in
    let abc = and_yes (a && b) c abcd.0 in
    let ab = and_yes a b abc.0 in
    (ab.0, ab.1, abc.1, abcd.1)
