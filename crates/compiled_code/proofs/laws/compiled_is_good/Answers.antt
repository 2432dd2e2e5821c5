use Rattle.compiled_code.proofs.laws.compiled_is_good.Goals as goal

pub returns : goal.returns
returns c p formed accepted = record {
  matches = c.compiled_matches.ensures p formed accepted;
  secure = c.compiled_is_secure.ensures p formed accepted;
  few_loads = c.loads_are_few.ensures p accepted;
}
