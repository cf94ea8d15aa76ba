use Rattle.std.proofs.Common.{refl}
use Rattle.yaml_c.proofs.values.yaml_c_values.Goals as goal

pub returns-in-Ok-clause-given : goal.returns-in-Ok-clause-given
returns-in-Ok-clause-given c = λ e. record {
  made = c.in-Ok.made;
  are = c.in-Ok.ensures.values;
  lengths = c.place_values.ensures.told;
  placed = c.place_values.ensures.given e;
  silent = refl;
}

pub returns-in-Ok-clause-short : goal.returns-in-Ok-clause-short
returns-in-Ok-clause-short c = λ e. record {
  made = c.in-Ok.made;
  are = c.in-Ok.ensures.values;
  lengths = c.place_values.ensures.told;
  short = c.place_values.ensures.short e;
  silent = refl;
}
