use Rattle.page_edits.proofs.Worked.{cases}
use Rattle.page_edits.proofs.laws.worked_cases.Goals as goal

pub returns : goal.returns
returns c = record { cases = cases }
