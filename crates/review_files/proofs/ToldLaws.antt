-- What is told of files that are not read or are rejected.
use Rattle.std.proofs.Common.{◌≡◌, ℕ, List, ◌++◌, refl, inr, ap}
use Rattle.yaml_text.specs.declared.fault.Fault.{Fault}
use Rattle.yaml_text.specs.declared.side.Side.{Side}
use Rattle.yaml_canon.specs.Claims.{CanonicalRefuses}
use Rattle.yaml_canon.specs.FaultPlaces.{TellsPlace}
use Rattle.review_text.specs.declared.options.Form.{Form}
use Rattle.review_faults.specs.FaultLines.{TellsFault}
use Rattle.review_files.specs.Told.{TellsFaults, TellsBoth, TellsNotCompared, no_memory, side_name}
use Rattle.review_files.specs.declared.rejected.Named.{Named}

-- bytes that are rejected
pub refused_bytes : (form : Form) (name bytes : List ℕ) (fault : Fault) (text : List ℕ) → CanonicalRefuses bytes fault → TellsPlace bytes fault → TellsFault form name bytes fault text → TellsFaults form name bytes text 2
refused_bytes form name bytes fault text r p t = inr ((fault, r, p, t), refl)

-- the line of one file, behind what is told of both
pub a_line_more : (form : Form) (left right : Named) (side : Side) (before name : List ℕ) → TellsBoth form left right before 0 → name ≡ side_name side left right → TellsNotCompared form left right side (before ++ no_memory name) 2
a_line_more form left right side before name b n = inr (before, b, ap (λ z. before ++ no_memory z) n, refl)
