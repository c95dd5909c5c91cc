-- The names of commands whose words may be rewritten.
use Rattle.std.specs.Prelude.{Bool, true, false, List, [], ◌∷◌, codes, Option}
use Rattle.std.specs.List.{find}
use Rattle.std.specs.Option.{option_map}
use Rattle.zq_dialect.specs.declared.ends.Ends.{Ends}
use Rattle.zq_dialect.specs.declared.name.Name.{Name}
use Rattle.zq_dialect.specs.declared.name.Name.TheVariants as name
use Rattle.zq_words.specs.Words.{Word, is}

abbrev pub ends_of : Bool → Bool → Ends
ends_of by_score is_turned = record { by_score = by_score; is_turned = is_turned }

abbrev pub names : List (Word × Name)
names =
    (codes "ZADD", name.Zadd) ∷ (codes "ZINCRBY", name.Zincrby) ∷ (codes "ZCOUNT", name.Zcount)
    ∷ (codes "ZRANGE", name.Zrange)
    ∷ (codes "ZREVRANGE", name.Older (ends_of false true))
    ∷ (codes "ZRANGEBYSCORE", name.Older (ends_of true false))
    ∷ (codes "ZREVRANGEBYSCORE", name.Older (ends_of true true))
    ∷ (codes "UNLINK", name.Unlink)
    ∷ (codes "ZREMRANGEBYSCORE", name.Zremrangebyscore) ∷ []

abbrev pub name_of : Word → Option Name
name_of word = option_map (λ row. row.1) (find (λ row. is word row.0) names)
