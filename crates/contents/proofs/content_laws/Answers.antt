use Rattle.contents.proofs.Held.{holds_once, pages_tidy}
use Rattle.contents.proofs.Walks.{walk_shows}
use Rattle.contents.proofs.Tests.{place_found, tests_good}
use Rattle.contents.proofs.content_laws.Goals as goal

pub returns-clause-good : goal.returns-clause-good
returns-clause-good c = tests_good

pub returns-clause-place : goal.returns-clause-place
returns-clause-place c = place_found

pub returns-clause-tidy : goal.returns-clause-tidy
returns-clause-tidy c = pages_tidy

pub returns-clause-held : goal.returns-clause-held
returns-clause-held c = holds_once

pub returns-clause-walk : goal.returns-clause-walk
returns-clause-walk c = walk_shows
