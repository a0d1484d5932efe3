use Rattle.law.proofs.Books.{one_book}
use Rattle.law.proofs.one_book_agrees.Goals as goal

pub returns : goal.returns
returns c = one_book
