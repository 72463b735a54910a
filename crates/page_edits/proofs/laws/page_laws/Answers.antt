use Rattle.page_edits.proofs.Back.{reads_back}
use Rattle.page_edits.proofs.One.{one_page, parts_of, same_again}
use Rattle.page_edits.proofs.laws.page_laws.Goals as goal

pub returns : goal.returns
returns c = record { back = reads_back; parts = parts_of; one = one_page; again = same_again }
