-- What is told of a log that was made.

use Rattle.std.specs.Prelude.{List, codes, decimal, ℕ, ◌++◌}
use Rattle.zq_adopt.specs.declared.adopted.Adopted.{Adopted}

abbrev pub line_of : Adopted → List ℕ
line_of x = codes "site " ++ decimal x.site ++ codes " heaps " ++ decimal x.heaps
    ++ codes " members " ++ decimal x.members ++ codes " operations " ++ decimal x.operations
    ++ codes "\n"
