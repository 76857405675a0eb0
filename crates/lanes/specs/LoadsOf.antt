-- The loads that a question's traffic values go by, in a job.
use Rattle.std.specs.Prelude.{◌≡◌}
use Rattle.model.specs.Job.{Job}
use Rattle.model.specs.Format.{profile_of}
use Rattle.model.specs.Line.{HN, HO}
use Rattle.centres.specs.Spanned.{Spanned}
use Rattle.lanes.specs.Loadings.{effects_of}
use Rattle.lanes.specs.declared.traffic.Loads.{Loads}

-- a job that has these loads
pub record LoadsOf (job : Job) (loads : Loads) : Type 0 where
  pub spanned : Spanned job loads.across
  pub profile : job.profile ≡ profile_of loads.edition
  pub dynamic : loads.dynamic ≡ job.dynamic loads.q
  pub hn : loads.hn ≡ effects_of job HN
  pub ho : loads.ho ≡ effects_of job HO
