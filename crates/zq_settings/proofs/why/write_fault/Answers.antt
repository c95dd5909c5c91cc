use Rattle.std.proofs.Common.{List, None, Option, Some, codes, option_map, refl, subst, ℕ, ◌++◌, ◌≡◌}
use Rattle.std.specs.Fmt.{DisplaysOnOk, ◌++?◌}
use Rattle.zq_settings.proofs.why.write_fault.Goals as goal
use Rattle.zq_settings.specs.Keys.{name_of}
use Rattle.zq_settings.specs.Words.{fault_text, owner_of, takes_of}
use Rattle.zq_settings.specs.declared.key.Key.{Key}

-- the parts of the text, of which the fault's may not be known
joined : (key : Key) (fault : Option (List ℕ))
    → (Some (owner_of key) ++? (Some (name_of key) ++? (Some (codes " ") ++? (fault ++? Some (codes ": it takes " ++ takes_of key))))) ≡ option_map (fault_text key) fault
joined key None = refl
joined key (Some said) = refl

parts : (key : Key) (owner name takes : List ℕ) (fault : Option (List ℕ)) → owner ≡ owner_of key → name ≡ name_of key → takes ≡ takes_of key
    → (Some owner ++? (Some name ++? (Some (codes " ") ++? (fault ++? Some (codes ": it takes " ++ takes))))) ≡ option_map (fault_text key) fault
parts key owner name takes fault is_owner is_name is_takes = rw (is_owner, is_name, is_takes) (joined key fault)

pub returns : goal.returns
returns g c =
    subst (λ text. DisplaysOnOk g.W.Write.write_str_gives c.args.f.now c.write.result text c.write.new.self)
    (parts c.args.key c.owner-owner.result.now c.name-name.result.now c.takes-takes.result.now (g.F.Display.output c.args.fault) c.owner-owner.ensures c.name-name.ensures
    c.takes-takes.ensures) c.write.ensures.writes
