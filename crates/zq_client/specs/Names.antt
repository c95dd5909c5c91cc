-- Which requests a connection answers itself.

use Rattle.std.specs.List.{find}
use Rattle.std.specs.Option.{is_some, option_map}
use Rattle.std.specs.Prelude.{Bool, List, None, Option, Some, [], codes, false, true, ◌∷◌}
use Rattle.zq_client.specs.declared.name.Name.{Name}
use Rattle.zq_client.specs.declared.name.Name.TheVariants as name
use Rattle.zq_client.specs.declared.name.Part.{Part}
use Rattle.zq_client.specs.declared.name.Part.TheVariants as part
use Rattle.zq_words.specs.Words.{Word, is}

abbrev pub names : List (Word × Name)
names =
    (codes "AUTH", name.Auth) ∷ (codes "HELLO", name.Hello) ∷ (codes "QUIT", name.Quit)
    ∷ (codes "RESET", name.Reset) ∷ (codes "SELECT", name.Select)
    ∷ (codes "CLIENT", name.Client) ∷ (codes "ECHO", name.Echo) ∷ (codes "TIME", name.Time)
    ∷ (codes "INFO", name.Info) ∷ (codes "CONFIG", name.Config)
    ∷ (codes "COMMAND", name.Command) ∷ []

abbrev pub name_of : Word → Option Name
name_of word = option_map (λ row. row.1) (find (λ row. is word row.0) names)

abbrev pub parts : List (Word × Part)
parts =
    (codes "ID", part.Id) ∷ (codes "GETNAME", part.GetName) ∷ (codes "SETNAME", part.SetName)
    ∷ (codes "SETINFO", part.SetInfo) ∷ []

-- what a word behind CLIENT asks for
abbrev pub part_of : Word → Option Part
part_of word = option_map (λ row. row.1) (find (λ row. is word row.0) parts)

-- the request that the first word names
abbrev pub named : List Word → Option Name
named [] = None
named (word ∷ words) = name_of word

abbrev pub is_own : List Word → Bool
is_own words = is_some (named words)

-- who is not known may ask for it
abbrev pub is_open : Option Name → Bool
is_open (Some name.Auth) = true
is_open (Some name.Hello) = true
is_open (Some name.Quit) = true
is_open (Some name.Reset) = true
is_open _ = false

abbrev pub tells_of_moment : Option Name → Bool
tells_of_moment (Some name.Time) = true
tells_of_moment (Some name.Info) = true
tells_of_moment _ = false

abbrev pub asks_for_moment : List Word → Bool
asks_for_moment words = tells_of_moment (named words)
